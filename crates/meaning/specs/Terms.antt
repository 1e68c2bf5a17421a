-- What the rows of a sheet stand for, and what pieces are.
use Rattle.std.specs.Prelude.{ℕ, ◌+◌, List, [], ◌∷◌, map}
use Rattle.sheet_text.specs.declared.word.Base.{Base}
use Rattle.path.specs.Meaning.{Downward, path_of}
use Rattle.path.specs.declared.Piece.{Piece}

abbrev pub Name : Type 0
Name = List ℕ

-- a path: its steps from the root down
abbrev pub Path : Type 0
Path = List Downward

-- a piece: its path, its base row, its place in the message and its width
pub record PieceSpec : Type 0 where
  pub path : Path
  pub row : ℕ
  pub place : ℕ
  pub width : ℕ

abbrev pub Pieces : Type 0
Pieces = List PieceSpec

-- the pieces that records of the program keep
abbrev pub piece_of : Piece → PieceSpec
piece_of p = record { path = path_of p.path; row = p.row; place = p.place; width = p.width }

abbrev pub pieces_of : List Piece → List PieceSpec
pieces_of ps = map piece_of ps

-- the total width of a list of pieces
abbrev pub total : List PieceSpec → ℕ
total [] = 0
total (p ∷ ps) = p.width + total ps

-- the numbers that are worked out
abbrev pub Number : Type 0
Number = ℕ

-- A row that is asked for as what it is not stands for a `no_...`, which has no value; no checked
-- sheet asks for one.
mutual
  -- numbers; a location is a climb and steps
  pub data Num : Type 0 where
    no_number : Num
    lit : ℕ → Num
    loc : ℕ → Steps → Num
    add mul : Num → Num → Num

  -- the steps of a location: into a field, or into the element that a number gives
  pub data Steps : Type 0 where
    no_steps : Steps
    end : Steps
    dot : Name → Steps → Steps
    idx : Num → Steps → Steps

pub data Truth : Type 0 where
  no_truth : Truth
  yea nay : Truth
  bloc : ℕ → Steps → Truth
  not : Truth → Truth
  both either : Truth → Truth → Truth
  eq lt : Num → Num → Truth

mutual
  -- types; each knows its row
  pub data Ty : Type 0 where
    base : ℕ → Base → Ty
    void : ℕ → Ty
    rec : ℕ → Fields → Ty
    arr : ℕ → Num → Ty → Ty
    alt : ℕ → Truth → Ty → Ty → Ty

  -- the fields of a record, in order: name and type
  pub data Fields : Type 0 where
    none : Fields
    fld : Name → Ty → Fields → Fields
