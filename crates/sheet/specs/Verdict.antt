-- Whether rows over a text are a sheet.
use Rattle.std.specs.Prelude.{ℕ, ◌+◌, Bool, cond, not, List, [], ◌∷◌, length, is_some, Some, None, Ok, Err, Option, Result, ◌==◌, nat_lt}
use Rattle.sheet.specs.Checks.{keeps_rule, first_failing, word_at}
use Rattle.sheet.specs.Fields.{fields_differ}
use Rattle.sheet.specs.Depths.{entries, shallow}
use Rattle.sheet_text.specs.declared.refusal.Reason.{Reason}
use Rattle.sheet_text.specs.declared.refusal.Reason.TheVariants as reason
use Rattle.sheet_text.specs.declared.refusal.SheetRefusal.{SheetRefusal}
use Rattle.sheet_text.specs.declared.row.Row.{Row}
use Rattle.sheet_text.specs.declared.row.Column.TheVariants as column
use Rattle.sheet_text.specs.declared.word.Word.{Word}
use Rattle.sheet_text.specs.declared.word.Word.TheVariants as word
use Rattle.sheet_text.specs.declared.word.Base.TheVariants as base
use Rattle.sheet_text.specs.declared.word.TypeWord.TheVariants as type

abbrev pub fault : Reason → ℕ → Option SheetRefusal
fault e line = Some (record { reason = e; line = line })

-- a fault at the row, if there is one; row k stands in line k + 2. Otherwise what comes after
abbrev pub fault_or : Reason → Option ℕ → Option SheetRefusal → Option SheetRefusal
fault_or e (Some k) later = fault e (k + 2)
fault_or e None later = later

-- the first fault of so many rows, where the lowest rows that break the rules of columns, field names and depth are known
abbrev pub first_fault : ℕ → Option ℕ → Option ℕ → Option ℕ → Option SheetRefusal
first_fault n columns fields depth =
    cond (n == 0) (fault reason.Count 1)
    (cond (nat_lt 256 n) (fault reason.Count 258)
    (fault_or reason.Column columns (fault_or reason.Field fields (fault_or reason.Depth depth None))))

-- the lowest row with a column against its word's rule, or row 0 if it is no type
abbrev pub column_fault : List ℕ → List Row → Option ℕ
column_fault text rows = first_failing (keeps_rule text rows) 0 rows

-- the lowest record with one name twice
abbrev pub field_fault : List ℕ → List Row → Option ℕ
field_fault text rows = first_failing (λ k r. fields_differ text rows r) 0 rows

-- the lowest type that nests more than eight deep
abbrev pub depth_fault : List Row → Option ℕ
depth_fault rows = first_failing (shallow (entries 0 rows)) 0 rows

-- the first fault of rows over a text
unfoldable pub verdict : List ℕ → List Row → Option SheetRefusal
verdict text rows = first_fault (length rows) (column_fault text rows) (field_fault text rows) (depth_fault rows)

abbrev pub answer : Option SheetRefusal → Result (Unit {0}) SheetRefusal
answer None = Ok tt
answer (Some e) = Err e

-- rows over a text keep every rule
abbrev pub lawful : List ℕ → List Row → Bool
lawful text rows = not (is_some (verdict text rows))

-- the word of row k, if there is one
abbrev pub word_if : List Row → ℕ → Option Word
word_if rows k = cond (nat_lt k (length rows)) (Some (word_at rows k)) None

-- the rows of the built-in sheet
abbrev pub one_byte : List Row
one_byte = record { word = word.Type (type.Base base.U8); name = column.Blank; one = column.Blank; two = column.Blank; three = column.Blank } ∷ []
