-- What putting a value into a store comes to, by readings.
use Rattle.std.specs.Prelude.{◌≡◌, ℕ, ◌≤◌, List, length, Some, Ok, Err, Result}
use Rattle.told.specs.declared.Told.{Told}
use Rattle.cells.specs.declared.cell.Cell.{Cell}
use Rattle.cells.specs.Changed.{with_bytes}
use Rattle.sheet_text.specs.declared.row.Row.{Row}
use Rattle.meaning.specs.Terms.{PieceSpec}
use Rattle.meaning.specs.Readings.{Reads}
use Rattle.reading.specs.States.{named}

-- the cells have a reading that fits the list, a piece of it has the path and the width of the
-- value, and the cells with the value in that piece's place have the same reading
pub record PutsCells (text : List ℕ) (rows : List Row) (room : ℕ) (cells : List Cell)
    (path value : List ℕ) (after : List Cell) : Type 0 where
  pub pieces : List PieceSpec
  pub piece : PieceSpec
  pub reads : Reads text rows cells pieces
  pub fits : length pieces ≤ room
  pub found : named pieces path ≡ Some piece
  pub wide : length value ≡ piece.width
  pub keeps : Reads text rows after pieces
  pub written : after ≡ with_bytes cells piece.place value

-- a put that is accepted does so; one that is refused leaves the cells, and none of the kind was
-- possible
abbrev pub PutEnds : List ℕ → List Row → ℕ → List Cell → List ℕ → List ℕ → List Cell
    → Result (Unit {0}) Told → Type 0
PutEnds text rows room cells path value after (Ok u) =
    PutsCells text rows room cells path value after
PutEnds text rows room cells path value after (Err t) = (after ≡ cells)
    × ((other : List Cell) → ¬ PutsCells text rows room cells path value other)
