-- What putting promises of readings.
use Rattle.std.specs.Prelude.{◌≡◌, ℕ, ◌↔◌, List, length, Option}
use Rattle.told.specs.Answers.{Answer, given, refused, bare}
use Rattle.cells.specs.declared.cell.Cell.{Cell}
use Rattle.cells.specs.Changed.{with_bytes}
use Rattle.sheet_text.specs.declared.row.Row.{Row}
use Rattle.meaning.specs.Terms.{PieceSpec}
use Rattle.meaning.specs.Readings.{Reads}
use Rattle.reading.specs.Outcomes.{meant}
use Rattle.reading.specs.States.{kept}

-- of the right width, to a kept piece, a put is accepted exactly if the kept pieces are the reading
-- of the changed bytes, and refused with 24 exactly if they are not
abbrev pub PutsReading : List ℕ → List Row → List Cell → Option ℕ → List PieceSpec → List ℕ
    → List ℕ → Answer Unit → Type 0
PutsReading text rows cells n T path bytes a =
    (p : PieceSpec) → meant n T path ≡ given p → length bytes ≡ p.width
    → ((a ≡ given tt) ↔ Reads text rows (with_bytes cells p.place bytes) (kept n T))
    × ((a ≡ refused (bare 24)) ↔ ¬ Reads text rows (with_bytes cells p.place bytes) (kept n T))
