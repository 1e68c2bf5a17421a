-- A listing: its lines, and its whole text, by the bytes of the input.
use Rattle.std.specs.Prelude.{ℕ, List, [], ◌∷◌, ◌++◌, map, codes}
use Rattle.std.specs.List.{flat_map}
use Rattle.told.specs.declared.Told.{Told}
use Rattle.told.specs.Answers.{Answer, given, refused, as_told}
use Rattle.cells.specs.declared.cell.Cell.{Cell}
use Rattle.cells.specs.Captured.{opened}
use Rattle.sheet_text.specs.Refusals.{sheet_told}
use Rattle.sheet.specs.Sheets.{read_of}
use Rattle.input.specs.Parts.{sheet_text, capture_text}
use Rattle.sheet_text.specs.declared.row.Row.{Row}
use Rattle.meaning.specs.Terms.{PieceSpec, total}
use Rattle.meaning.specs.Matcher.{Laid, accepted}
use Rattle.meaning.specs.Matcher
use Rattle.meaning.specs.Refusals.{fault_told, reached}
use Rattle.meaning.specs.Laying.{laid_in}
use Rattle.reading.specs.Outcomes.{laid_over}
use Rattle.listing.specs.Rows.{piece_text, rest_text, told_text}
use Rattle.meaning.specs.Bars.{places}

abbrev pub laid_header : List ℕ
laid_header = codes "path,word,place,width,bytes"

abbrev pub fault_header : List ℕ
fault_header = codes "fault,line,row,place,pieces,lost,layers"

-- what a listing tells: the pieces by the rows of a sheet and the cells of a message, of which so
-- many are covered; or a refusal
pub data Outcome : Type 0 where
  laid : List Row → List Cell → List PieceSpec → ℕ → Outcome
  fault : Told → Outcome

abbrev pub lines_of : Outcome → List (List ℕ)
lines_of (laid rows cells T covered) =
    laid_header ∷ (map (piece_text rows cells) T ++ (rest_text cells covered ∷ []))
lines_of (fault told) = fault_header ∷ (told_text told ∷ [])

-- every line ends with a line feed
abbrev pub ended : List ℕ → List ℕ
ended line = line ++ (10 ∷ [])

abbrev pub whole_text : List (List ℕ) → List ℕ
whole_text lines = flat_map ended lines

-- what the matcher comes to: the pieces, which cover their total width, or its refusal
abbrev pub of_laying : List Row → List Cell → Laid → Outcome
of_laying rows cells (accepted T) = laid rows cells T (total T)
of_laying rows cells (Matcher.refused e r A) = fault (reached r A (fault_told e))

-- the text of the listing of a message by the rows of a sheet over that text, into a piece list of
-- so many places
abbrev pub message_text : List ℕ → List Row → ℕ → List Cell → List ℕ
message_text text rows room cells =
    whole_text (lines_of (of_laying rows cells (laid_in text rows cells room)))

-- the message of a capture
abbrev pub of_message : List ℕ → List Row → ℕ → Answer (List Cell) → Outcome
of_message text rows room (given cells) = of_laying rows cells (laid_in text rows cells room)
of_message text rows room (refused told) = fault told

-- a fault of the sheet is told before one of the capture
abbrev pub outcome_of : List ℕ → List Row → ℕ → Answer ℕ → Answer (List Cell) → Outcome
outcome_of text rows room (refused told) message = fault told
outcome_of text rows room (given n) message = of_message text rows room message

-- the sheet and the capture of an input, where the row table and the piece list have so many places
abbrev pub outcome : ℕ → ℕ → List ℕ → List ℕ → Outcome
outcome places room sheet capture =
    outcome_of sheet (read_of sheet places).rows room
    (as_told sheet_told (read_of sheet places).result) (opened capture)

-- what a piece list of so many places, with those entries, has after a message was listed, by what
-- its capture opens to
abbrev pub left_by : List ℕ → List Row → ℕ → List PieceSpec → Answer (List Cell) → List PieceSpec
left_by text rows room entries (given cells) = laid_over (laid_in text rows cells room) entries
left_by text rows room entries (refused told) = entries

-- and by what reading the sheet answers
abbrev pub left_of : List ℕ → List Row → ℕ → List PieceSpec → Answer ℕ → Answer (List Cell)
    → List PieceSpec
left_of text rows room entries (refused told) message = entries
left_of text rows room entries (given n) message = left_by text rows room entries message

-- after the listing of a sheet and a capture
abbrev pub left : ℕ → ℕ → List PieceSpec → List ℕ → List ℕ → List PieceSpec
left places room entries sheet capture =
    left_of sheet (read_of sheet places).rows room entries
    (as_told sheet_told (read_of sheet places).result) (opened capture)

-- the whole text
unfoldable pub listing : ℕ → ℕ → List ℕ → List ℕ
listing places room bytes = whole_text
    (lines_of (outcome places room (sheet_text bytes) (capture_text bytes)))
