-- Readings of a message by a sheet.
use Rattle.std.specs.Prelude.{◌≡◌, ℕ, List, []}
use Rattle.cells.specs.declared.cell.Cell.{Cell}
use Rattle.sheet_text.specs.declared.row.Row.{Row}
use Rattle.meaning.specs.Terms.{PieceSpec}
use Rattle.meaning.specs.Stands.{type_at}
use Rattle.meaning.specs.Values.{over}
use Rattle.meaning.specs.Layouts.{Layout}

-- T is a reading of the cells by the sheet of these rows over that text: a layout of row 0 at the
-- root, after nothing, with no record open
abbrev pub Reads : List ℕ → List Row → List Cell → List PieceSpec → Type 0
Reads text rows cells T = Layout (over rows cells) (type_at text rows 0) [] [] [] T

-- at most one list of pieces is a reading of a message by the sheet
abbrev pub OneReading : List ℕ → List Row → Type 0
OneReading text rows =
    (cells : List Cell) (T U : List PieceSpec)
    → Reads text rows cells T → Reads text rows cells U → T ≡ U
