-- The sheets of the worked examples, and what laying a capture by one tells.
use Rattle.std.specs.Prelude.{◌≡◌, ℕ, List, [], ◌∷◌, ◌++◌, Some, Ok, codes}
use Prim.Native.String.{String}
use Rattle.told.specs.declared.Told.{Told}
use Rattle.told.specs.Answers.{Answer, given, refused, bare}
use Rattle.cells.specs.declared.cell.Cell.{Cell}
use Rattle.cells.specs.Captured.{opened}
use Rattle.path.specs.Meaning.{Downward}
use Rattle.sheet.specs.Sheets.{read_of}
use Rattle.meaning.specs.Terms.{PieceSpec}
use Rattle.meaning.specs.Matcher.{Laid}
use Rattle.meaning.specs.Laying.{laid_in, laid_told}

-- lines, each ended by a line feed
abbrev pub lines_of : List String → List ℕ
lines_of [] = []
lines_of (l ∷ ls) = codes l ++ (10 ∷ lines_of ls)

-- a sheet by its rows
abbrev pub sheet : List String → List ℕ
sheet rows = lines_of ("row,word,name,one,two,three" ∷ rows)

-- the lines are a sheet of so many rows that keeps every rule
abbrev pub Accepted : List String → ℕ → Type 0
Accepted rows n = (read_of (sheet rows) 256).result ≡ Ok n

abbrev pub cells_in : Answer (List Cell) → List Cell
cells_in (given cells) = cells
cells_in (refused t) = []

-- what the matcher makes of a capture by a sheet, into a list of so many places
abbrev pub laying : List String → String → ℕ → Laid
laying rows capture room = laid_in (sheet rows) (read_of (sheet rows) 256).rows
    (cells_in (opened (codes capture))) room

-- the same as it is told
abbrev pub tells : List String → String → ℕ → Answer (ℕ × ℕ)
tells rows capture room = laid_told (laying rows capture room)

-- a refusal with its number, the row in front, the place reached and the number of pieces placed
abbrev pub refusal : ℕ → ℕ → ℕ → ℕ → Told
refusal n row place pieces =
    record (bare n) { row = Some row; place = Some place; pieces = Some pieces }

abbrev pub piece : List Downward → ℕ → ℕ → ℕ → PieceSpec
piece path row place width = record { path = path; row = row; place = place; width = width }

-- a count, and as many points
abbrev pub points : List String
points =
    "0,rec,-,1,-,-"
    ∷ "1,fld,n,3,2,-"
    ∷ "2,fld,pts,4,-,-"
    ∷ "3,u8,-,-,-,-"
    ∷ "4,arr,-,8,5,-"
    ∷ "5,loc,-,6,-,-"
    ∷ "6,from,-,0,7,-"
    ∷ "7,dot,n,-,-,-"
    ∷ "8,i16,-,-,-,-"
    ∷ []

-- a record without fields
abbrev pub empty : List String
empty = "0,rec,-,-,-,-" ∷ []

-- 65,535 of them, and one more
abbrev pub empties : List String
empties = "0,arr,-,1,2,-" ∷ "1,rec,-,-,-,-" ∷ "2,lit,-,65535,-,-" ∷ []

abbrev pub too_many_empties : List String
too_many_empties = "0,arr,-,1,2,-" ∷ "1,rec,-,-,-,-" ∷ "2,lit,-,65536,-,-" ∷ []

-- nothing that can be laid; and a byte, and then that, since true chooses it
abbrev pub nothing : List String
nothing = "0,void,-,-,-,-" ∷ []

abbrev pub then_nothing : List String
then_nothing =
    "0,rec,-,1,-,-"
    ∷ "1,fld,n,6,2,-"
    ∷ "2,fld,end,3,-,-"
    ∷ "3,alt,-,4,5,6"
    ∷ "4,true,-,-,-,-"
    ∷ "5,void,-,-,-,-"
    ∷ "6,u8,-,-,-,-"
    ∷ []

-- as many empty records as 2^63 - 1 plus 1
abbrev pub above : List String
above = "0,arr,-,1,2,-" ∷ "1,rec,-,-,-,-" ∷ "2,add,-,3,4,-" ∷ "3,lit,-,9223372036854775807,-,-" ∷
    "4,lit,-,1,-,-" ∷ []

-- an empty record where true or that sum is below 1
abbrev pub above_or : List String
above_or =
    "0,alt,-,2,1,1"
    ∷ "1,rec,-,-,-,-"
    ∷ "2,or,-,3,4,-"
    ∷ "3,true,-,-,-,-"
    ∷ "4,lt,-,5,7,-"
    ∷ "5,add,-,6,7,-"
    ∷ "6,lit,-,9223372036854775807,-,-"
    ∷ "7,lit,-,1,-,-"
    ∷ []

-- a flag, then a head in one of two versions, each of which declares the count `n`, then as many
-- bytes
abbrev pub two_versions : List String
two_versions =
    "0,rec,-,1,-,-"
    ∷ "1,fld,long,4,2,-"
    ∷ "2,fld,head,5,3,-"
    ∷ "3,fld,pts,15,-,-"
    ∷ "4,bool,-,-,-,-"
    ∷ "5,alt,-,6,9,11"
    ∷ "6,bloc,-,7,-,-"
    ∷ "7,from,-,0,8,-"
    ∷ "8,dot,long,-,-,-"
    ∷ "9,rec,-,10,-,-"
    ∷ "10,fld,n,13,-,-"
    ∷ "11,rec,-,12,-,-"
    ∷ "12,fld,n,14,-,-"
    ∷ "13,u16,-,-,-,-"
    ∷ "14,u8,-,-,-,-"
    ∷ "15,arr,-,20,16,-"
    ∷ "16,loc,-,17,-,-"
    ∷ "17,from,-,0,18,-"
    ∷ "18,dot,head,19,-,-"
    ∷ "19,dot,n,-,-,-"
    ∷ "20,u8,-,-,-,-"
    ∷ []

-- an array that stands before its count
abbrev pub count_behind : List String
count_behind =
    "0,rec,-,1,-,-"
    ∷ "1,fld,pts,4,2,-"
    ∷ "2,fld,n,3,-,-"
    ∷ "3,u8,-,-,-,-"
    ∷ "4,arr,-,8,5,-"
    ∷ "5,loc,-,6,-,-"
    ∷ "6,from,-,0,7,-"
    ∷ "7,dot,n,-,-,-"
    ∷ "8,i16,-,-,-,-"
    ∷ []

-- two records, each with a count of its own and as many bytes
abbrev pub own_counts : List String
own_counts =
    "0,arr,-,2,1,-"
    ∷ "1,lit,-,2,-,-"
    ∷ "2,rec,-,3,-,-"
    ∷ "3,fld,n,5,4,-"
    ∷ "4,fld,pts,6,-,-"
    ∷ "5,u8,-,-,-,-"
    ∷ "6,arr,-,10,7,-"
    ∷ "7,loc,-,8,-,-"
    ∷ "8,from,-,0,9,-"
    ∷ "9,dot,n,-,-,-"
    ∷ "10,u8,-,-,-,-"
    ∷ []
