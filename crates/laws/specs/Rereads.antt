-- The matcher told to place nothing but some pieces.
use Rattle.std.specs.Prelude.{◌≡◌, ℕ, Bool, true, false, ◌↔◌, List, length, ◌==◌}
use Rattle.cells.specs.declared.cell.Cell.{Cell}
use Rattle.sheet_text.specs.declared.row.Row.{Row}
use Rattle.meaning.specs.Terms.{PieceSpec}
use Rattle.meaning.specs.Values.{over}
use Rattle.meaning.specs.Bars.{only}
use Rattle.meaning.specs.Matcher.{Laid, accepted, refused, matched}
use Rattle.meaning.specs.Readings.{Reads}

-- whether so many pieces were placed, and none refused
abbrev pub as_many : Laid → ℕ → Bool
as_many (accepted B) n = length B == n
as_many (refused e r B) n = false

-- whether it then places all of them
abbrev pub reread : List ℕ → List Row → List Cell → List PieceSpec → Bool
reread text rows cells T = as_many (matched text rows (over rows cells) (only (length cells) T))
    (length T)

-- it does so exactly if they are a reading
abbrev pub RereadDecides : Type 0
RereadDecides =
    (text : List ℕ) (rows : List Row) (cells : List Cell) (T : List PieceSpec)
    → (reread text rows cells T ≡ true) ↔ Reads text rows cells T
