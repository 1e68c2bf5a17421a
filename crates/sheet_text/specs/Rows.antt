-- The rows that the lines of a sheet state.
use Rattle.std.specs.Prelude.{ℕ, zero, suc, ◌+◌, min, Bool, false, cond, List, [], ◌∷◌, ◌++◌, length, take, drop, Some, None, Ok, Err, codes, Option, Result, ◌==◌, nat_le}
use Rattle.std.specs.Str.{bytes_eq}
use Rattle.sheet_text.specs.Values.{Value, name, number, blank}
use Rattle.sheet_text.specs.Table.{words, spelled}
use Rattle.sheet_text.specs.Lines.{Held, line_at}
use Rattle.sheet_text.specs.declared.refusal.Reason.{Reason}
use Rattle.sheet_text.specs.declared.refusal.Reason.TheVariants as reason
use Rattle.sheet_text.specs.declared.refusal.SheetRefusal.{SheetRefusal}
use Rattle.sheet_text.specs.declared.row.Row.{Row}
use Rattle.sheet_text.specs.declared.word.Word.{Word}

abbrev pub is_number : ℕ → Value → Bool
is_number n (number m) = m == n
is_number n (name bs) = false
is_number n blank = false

-- the word that a value is
abbrev pub word_in : Value → Option Word
word_in (name bs) = spelled words bs
word_in (number n) = None
word_in blank = None

-- a row that a line states, and where the next line begins
pub record Stated : Type 0 where
  pub row : Row
  pub next : ℕ

-- what a cursor answered that then stands at a place
abbrev pub stated : ℕ → Result Row Reason → Result Stated Reason
stated next (Ok r) = Ok (record { row = r; next = next })
stated next (Err e) = Err e

abbrev pub row_with : Held → Option Word → Result Stated Reason
row_with h None = Err reason.Word
row_with h (Some w) = Ok (record {
  row = record { word = w; name = h.name; one = h.one; two = h.two; three = h.three };
  next = h.next;
})

-- what a line states as row k
abbrev pub row_from : ℕ → Option Held → Result Stated Reason
row_from k None = Err reason.Line
row_from k (Some h) = cond (is_number k h.number) (row_with h (word_in h.word)) (Err reason.Line)

unfoldable pub row_at : List ℕ → ℕ → ℕ → Result Stated Reason
row_at text at k = row_from k (line_at text at)

-- the first line of every sheet
abbrev pub header : List ℕ
header = codes "row,word,name,one,two,three" ++ (10 ∷ [])

-- the text begins with it
abbrev pub headed : List ℕ → Bool
headed text = bytes_eq header (take 28 text)

-- the rows that the lines state ahead of a fault, and the answer: their number, or the refusal
pub record Read : Type 0 where
  pub rows : List Row
  pub result : Result ℕ SheetRefusal

abbrev pub refused : Reason → ℕ → Read
refused e line = record { rows = []; result = Err (record { reason = e; line = line }) }

-- row k, and then what the lines after it state; its line has number k + 2
abbrev pub with_row : ℕ → Result Stated Reason → (ℕ → Read) → Read
with_row k (Err e) later = refused e (k + 2)
with_row k (Ok s) later = record { rows = s.row ∷ (later s.next).rows; result = (later s.next).result }

-- the lines from a place on, as row k and later ones, where there is room for so many more rows
unfoldable pub lines_from : ℕ → List ℕ → ℕ → ℕ → Read
lines_from zero text at k = cond (nat_le (length text) at) (record { rows = []; result = Ok k }) (refused reason.Count (k + 2))
lines_from (suc room) text at k =
    cond (nat_le (length text) at) (record { rows = []; result = Ok k })
    (with_row k (row_at text at k) (λ next. lines_from room text next (k + 1)))

-- the lines after the first, into a table of so many places
abbrev pub further_lines : List ℕ → ℕ → Read
further_lines text places = lines_from (min places 256) text 28 0

-- the whole text
abbrev pub lines_of : List ℕ → ℕ → Read
lines_of text places =
    cond (headed text) (cond (length text == 28) (refused reason.Count 1) (further_lines text places)) (refused reason.Header 1)

-- the table with the rows in its first places
abbrev pub laid : List Row → List Row → List Row
laid rows table = rows ++ drop (length rows) table
