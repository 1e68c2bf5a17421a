-- What reading a sheet answers and leaves.
use Rattle.std.specs.Prelude.{ℕ, List, Some, None, Ok, Err, Option, Result}
use Rattle.sheet_text.specs.Rows.{Read, lines_of}
use Rattle.sheet_text.specs.declared.refusal.SheetRefusal.{SheetRefusal}
use Rattle.sheet_text.specs.declared.row.Row.{Row}
use Rattle.sheet.specs.Verdict.{verdict}
use Rattle.sheet.specs.declared.checked.CheckedSheet.{CheckedSheet}

-- the rows and the text of a sheet
abbrev pub rows_of : CheckedSheet → List Row
rows_of s = s.rows.now

abbrev pub text_of : CheckedSheet → List ℕ
text_of s = s.text.now

-- the answer about lines that were read, with the verdict on their rows
abbrev pub after : Result ℕ SheetRefusal → Option SheetRefusal → Result ℕ SheetRefusal
after (Err e) v = Err e
after (Ok n) None = Ok n
after (Ok n) (Some e) = Err e

abbrev pub judged : List ℕ → Read → Read
judged text read = record { rows = read.rows; result = after read.result (verdict text read.rows) }

-- the rows that a text puts into a table of so many places, and the answer: their number, or the first refusal
abbrev pub read_of : List ℕ → ℕ → Read
read_of text places = judged text (lines_of text places)
