-- The worked examples of the lister, from the bytes of its input to those that it prints.
use Rattle.std.specs.Prelude.{◌≡◌, ℕ, List, [], ◌∷◌, ◌++◌}
use Prim.Native.String.{String}
use Rattle.listing.specs.Lines.{listing}
use Rattle.worked.specs.Sheets.{lines_of, sheet, points}

-- a sheet by its rows, an empty line, and a line with a capture
abbrev pub input : List String → String → List ℕ
input rows capture = sheet rows ++ lines_of ("" ∷ capture ∷ [])

-- what the lister prints of it: it has places for 256 rows and 512 pieces
abbrev pub prints : List String → String → List ℕ
prints rows capture = listing 256 512 (input rows capture)

-- a count of 2 and two points, and the rest; and a count that is lost
abbrev pub PointsListed : Type 0
PointsListed =
    (prints points "02ffec000a7f"
    ≡ lines_of (
    "path,word,place,width,bytes"
    ∷ "root.n,u8,0,1,02"
    ∷ "root.pts[0],i16,1,2,ffec"
    ∷ "root.pts[1],i16,3,2,000a"
    ∷ "rest,-,5,1,7f"
    ∷ []))
    × (prints points "--ffec" ≡ lines_of
    ("fault,line,row,place,pieces,lost,layers" ∷ "16,-,4,1,1,0,0" ∷ []))
