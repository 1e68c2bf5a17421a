-- What the matcher makes of a message and a list, and how that is told.
use Rattle.std.specs.Prelude.{ℕ, List, length}
use Rattle.told.specs.Answers.{Answer, given, refused}
use Rattle.cells.specs.declared.cell.Cell.{Cell}
use Rattle.sheet_text.specs.declared.row.Row.{Row}
use Rattle.meaning.specs.Refusals.{fault_told, reached}
use Rattle.meaning.specs.Terms.{total}
use Rattle.meaning.specs.Values.{over}
use Rattle.meaning.specs.Bars.{places}
use Rattle.meaning.specs.Matcher.{Laid, accepted, matched}
use Rattle.meaning.specs.Matcher

-- these cells, into a list of so many places
abbrev pub laid_in : List ℕ → List Row → List Cell → ℕ → Laid
laid_in text rows cells room = matched text rows (over rows cells) (places (length cells) room)

-- as it is told: the number of pieces and the covered length, or the refusal
abbrev pub laid_told : Laid → Answer (ℕ × ℕ)
laid_told (accepted T) = given (length T, total T)
laid_told (Matcher.refused e r A) = refused (reached r A (fault_told e))
