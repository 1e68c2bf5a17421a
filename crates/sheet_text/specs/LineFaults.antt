-- What a refusal of lines says about the text.
use Rattle.std.specs.Prelude.{◌≡◌, ℕ, ◌+◌, ◌<◌, min, ◌⊎◌, List, [], length, take, IfOk, Ok, Err, Result, ◌≢◌}
use Rattle.sheet_text.specs.Values as value
use Rattle.sheet_text.specs.Table.{spelling}
use Rattle.sheet_text.specs.Rows.{header, laid}
use Rattle.sheet_text.specs.States.{SixValues, LinesTo, States, Fits}
use Rattle.sheet_text.specs.declared.refusal.Reason.{Reason}
use Rattle.sheet_text.specs.declared.refusal.Reason.TheVariants as reason
use Rattle.sheet_text.specs.declared.refusal.SheetRefusal.{SheetRefusal}
use Rattle.sheet_text.specs.declared.row.Row.{Row}
use Rattle.sheet_text.specs.declared.word.Word.{Word}

-- what is wrong with the line at a place, which should state row k, where there is room for so many rows
abbrev pub BadLine : Reason → List ℕ → ℕ → ℕ → ℕ → Type 0
BadLine reason.Header text room at k = ⊥
-- there is no room for the row
BadLine reason.Count text room at k = k ≡ room
-- there is, but the line is not six values, the row's number first
BadLine reason.Line text room at k = (k < room) × ((s : SixValues text at) → s.own ≢ value.number k)
-- it is, but the second is no word
BadLine reason.Word text room at k =
    (k < room) × ((s : SixValues text at) × ((s.own ≡ value.number k) × ((w : Word) → s.word ≢ value.name (spelling w))))
BadLine reason.Column text room at k = ⊥
BadLine reason.Field text room at k = ⊥
BadLine reason.Depth text room at k = ⊥

-- after the first line, lines state the rows, and the next one is wrong; row k stands in line k + 2
pub record StopsAt (text : List ℕ) (places : ℕ) (rows : List Row) (e : Reason) (line : ℕ) : Type 0 where
  pub headed : take 28 text ≡ header
  pub at : ℕ
  pub ahead : LinesTo text 28 0 rows at
  pub more : at < length text
  pub bad : BadLine e text (min places 256) at (length rows)
  pub line_of : line ≡ length rows + 2

-- what is said by a refusal of lines, with the rows that the lines ahead of the fault state
abbrev pub LinesRefused : List ℕ → ℕ → List Row → Reason → ℕ → Type 0
LinesRefused text places rows reason.Header line = (take 28 text ≢ header) × (line ≡ 1) × (rows ≡ [])
LinesRefused text places rows reason.Count line = ((text ≡ header) × (line ≡ 1) × (rows ≡ [])) ⊎ StopsAt text places rows reason.Count line
LinesRefused text places rows reason.Line line = StopsAt text places rows reason.Line line
LinesRefused text places rows reason.Word line = StopsAt text places rows reason.Word line
LinesRefused text places rows reason.Column line = ⊥
LinesRefused text places rows reason.Field line = ⊥
LinesRefused text places rows reason.Depth line = ⊥

-- the answer about the lines of a text that were read into a table, and what that left there
pub record ReadsLines (text : List ℕ) (table left : List Row) (r : Result ℕ SheetRefusal) : Type 0 where
  -- accepted: the lines state the first rows of the table, as many as were counted
  pub stated : IfOk r (λ n. States text (take n left))
  -- where the lines state rows and there is room for them, they are read, and the later places are as before
  pub accepts : (rows : List Row) → Fits text (length table) rows → (r ≡ Ok (length rows)) × (left ≡ laid rows table)
  -- refused: the rows ahead of the fault stand in the table, and the later places are as before
  pub refuses : (e : SheetRefusal) → r ≡ Err e → (rows : List Row) × ((left ≡ laid rows table) × LinesRefused text (length table) rows e.reason e.line)
  -- and this is the refusal that is given
  pub exactly : (rows : List Row) (e : SheetRefusal) → LinesRefused text (length table) rows e.reason e.line → (r ≡ Err e) × (left ≡ laid rows table)
