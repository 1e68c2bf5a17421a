-- What the exported calls answer and leave.
use Rattle.std.specs.Prelude.{◌≡◌, ℕ, ◌+◌, ◌<◌, ◌≤◌, ◌⊎◌, min, List, ◌++◌, length, take, drop, Some}
use Rattle.std.specs.Prelude.{None, Option}
use Rattle.told.specs.declared.Told.{Told}
use Rattle.told.specs.Answers.{Answer, given, refused, as_told, bare}
use Rattle.cells.specs.declared.cell.Cell.{Cell}
use Rattle.cells.specs.Cells.{byte_cells}
use Rattle.cells.specs.Changed.{with_bytes}
use Rattle.sheet_text.specs.Refusals.{sheet_told}
use Rattle.sheet_text.specs.Refusals as sheet
use Rattle.sheet_text.specs.States.{Fits}
use Rattle.sheet_text.specs.declared.refusal.Reason.{Reason}
use Rattle.sheet_text.specs.declared.row.Row.{Row}
use Rattle.sheet.specs.Keeps.{Keeps}
use Rattle.sheet.specs.Readings.{Wrong}
use Rattle.sheet.specs.Sheets.{read_of}
use Rattle.meaning.specs.Terms.{PieceSpec}
use Rattle.meaning.specs.Matcher.{Laid, accepted}
use Rattle.meaning.specs.Matcher
use Rattle.meaning.specs.Readings.{Reads}
use Rattle.meaning.specs.Refusals.{fault_told, reached}
use Rattle.meaning.specs.Laying.{laid_in}
use Rattle.reading.specs.Outcomes.{or_refused, put_as, with_piece}
use Rattle.reading.specs.States.{named}
use Rattle.listing.specs.Lines.{lines_of, outcome_of, whole_text}

-- a refusal that is told already
abbrev pub itself : Told → Told
itself t = t

-- an answer as C is given it: 0, or the number of the refusal
abbrev pub number_of : {X : Type 0} → Answer X → ℕ
number_of (given x) = 0
number_of (refused t) = t.number

abbrev pub or_zero : Option ℕ → ℕ
or_zero None = 0
or_zero (Some n) = n

-- 0, or the line that the refusal carries
abbrev pub line_of : {X : Type 0} → Answer X → ℕ
line_of (given x) = 0
line_of (refused t) = or_zero t.line

-- what reading a sheet answers: how many rows it has, or its first fault
abbrev pub checked : List ℕ → Answer ℕ
checked text = as_told sheet_told (read_of text 256).result

-- the lines of the text state the rows, which keep every rule
abbrev pub Stated : List ℕ → List Row → Type 0
Stated text rows = Fits text 256 rows × Keeps text rows

-- 0, and line 0, exactly where the text is a sheet; else the number of the first fault, and its
-- line
pub record Checks (text : List ℕ) (number line : ℕ) : Type 0 where
  pub accepts : (rows : List Row) → Stated text rows → number ≡ 0
  pub states : number ≡ 0 → ((rows : List Row) × Stated text rows) × (line ≡ 0)
  pub refuses : (rows : List Row) (e : Reason) (n : ℕ) → Wrong text 256 rows e n
      → (number ≡ sheet.number_of e) × (line ≡ n)
  pub faults : ¬ (number ≡ 0) → (rows : List Row)
      × ((e : Reason) × (Wrong text 256 rows e line × (number ≡ sheet.number_of e)))

-- how many places the piece list of a call has
abbrev pub room_of : ℕ → ℕ
room_of places = min places 16384

-- the listing of a message by a sheet: its pieces and the rest, or the refusal of the sheet or of
-- laying
abbrev pub listed : List ℕ → ℕ → List ℕ → List ℕ
listed text room message = whole_text
    (lines_of
    (outcome_of text (read_of text 256).rows room (checked text) (given (byte_cells message))))

-- the text stands at the front of the buffer and its length is answered; or there is no room for
-- it, the answer is 0 and the buffer is as it was
abbrev pub Written : List ℕ → List ℕ → ℕ → List ℕ → Type 0
Written text before n after =
    ((length text ≤ length before) × (n ≡ length text)
    × (after ≡ text ++ drop (length text) before))
    ⊎ ((length before < length text) × (n ≡ 0) × (after ≡ before))

-- what putting comes to after laying: the refusal of laying, 22, 23 or 24, or accepted
abbrev pub put_after : List ℕ → List Row → List Cell → Laid → List ℕ → List ℕ → Answer Unit
put_after text rows cells (accepted T) path value =
    with_piece (or_refused (bare 22) (named T path)) (put_as text rows cells T value)
put_after text rows cells (Matcher.refused e r A) path value = refused (reached r A (fault_told e))

abbrev pub put_laid : List ℕ → List Row → List Cell → ℕ → List ℕ → List ℕ → Answer Unit
put_laid text rows cells room path value =
    put_after text rows cells (laid_in text rows cells room) path value

-- by what reading the sheet answers
abbrev pub put_by : List ℕ → List Row → List Cell → ℕ → Answer ℕ → List ℕ → List ℕ → Answer Unit
put_by text rows cells room (given n) path value = put_laid text rows cells room path value
put_by text rows cells room (refused t) path value = refused t

abbrev pub put_told : List ℕ → List ℕ → ℕ → List ℕ → List ℕ → Answer Unit
put_told text message room path value =
    put_by text (read_of text 256).rows (byte_cells message) room (checked text) path value

-- the value can go to the path: the message has a reading that fits the list, a piece of it has the
-- path and the width of the value, and the message with the value in that piece's place has the
-- same reading
pub record Puts (text : List ℕ) (rows : List Row) (room : ℕ) (message path value after : List ℕ) :
    Type 0 where
  pub pieces : List PieceSpec
  pub piece : PieceSpec
  pub reads : Reads text rows (byte_cells message) pieces
  pub fits : length pieces ≤ room
  pub found : named pieces path ≡ Some piece
  pub wide : length value ≡ piece.width
  pub keeps : Reads text rows (byte_cells after) pieces
  pub written : after ≡ take piece.place message ++
      (value ++ drop (piece.place + length value) message)

-- 0 exactly where the value could be put, and then it stands in the message; else the message is as
-- it was
pub record Altered (text message : List ℕ) (room : ℕ) (path value : List ℕ) (number : ℕ)
    (after : List ℕ) : Type 0 where
  pub puts : number ≡ 0 → (rows : List Row)
      × (Stated text rows × Puts text rows room message path value after)
  pub stays : ¬ (number ≡ 0) → after ≡ message
  pub only : (rows : List Row) (other : List ℕ) → Stated text rows
      → Puts text rows room message path value other → number ≡ 0

-- which refusal it is: that of the sheet, and where the message has a reading that fits the list,
-- 22, 23 or 24
pub record Refuses (text message : List ℕ) (room : ℕ) (path value : List ℕ) (number : ℕ) :
    Type 0 where
  pub sheet : (rows : List Row) (e : Reason) (n : ℕ) → Wrong text 256 rows e n
      → number ≡ sheet.number_of e
  -- no piece has the path
  pub nowhere : (rows : List Row) (T : List PieceSpec) → Stated text rows
      → Reads text rows (byte_cells message) T → length T ≤ room
      → named T path ≡ None → number ≡ 22
  -- one has it, but is not as wide as the value
  pub wide : (rows : List Row) (T : List PieceSpec) (p : PieceSpec) → Stated text rows
      → Reads text rows (byte_cells message) T → length T ≤ room
      → named T path ≡ Some p → ¬ (length value ≡ p.width) → number ≡ 23
  -- it is, but with the value in its place the message has not this reading
  pub other : (rows : List Row) (T : List PieceSpec) (p : PieceSpec) → Stated text rows
      → Reads text rows (byte_cells message) T → length T ≤ room
      → named T path ≡ Some p → length value ≡ p.width
      → ¬ Reads text rows (with_bytes (byte_cells message) p.place value) T → number ≡ 24
