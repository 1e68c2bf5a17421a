-- What reading a text as a sheet comes to.
use Rattle.std.specs.Prelude.{◌≡◌, ℕ, List, length, Ok, Err, Result}
use Rattle.told.specs.declared.Told.{Told}
use Rattle.told.specs.Answers.{given, refused}
use Rattle.sheet_text.specs.Refusals as sheet
use Rattle.sheet_text.specs.declared.refusal.SheetRefusal.{SheetRefusal}
use Rattle.sheet_text.specs.declared.row.Row.{Row}
use Rattle.sheet.specs.Sheets.{read_of, rows_of, text_of}
use Rattle.sheet.specs.declared.checked.CheckedSheet.{CheckedSheet}
use Rattle.balskif.specs.Calls.{checked, Checks, Stated}

-- what an answer about a text comes to for C
abbrev pub SheetChecked : List ℕ → Result ℕ SheetRefusal → Type 0
SheetChecked text (Ok n) = Checks text 0 0
SheetChecked text (Err e) = Checks text (sheet.number_of e.reason) e.line

-- the sheet of that text: it has the rows that the lines state, these keep every rule, and no other rows are stated
pub record IsSheet (text : List ℕ) (s : CheckedSheet) : Type 0 where
  pub text_is : text_of s ≡ text
  pub rows_are : rows_of s ≡ (read_of text 256).rows
  pub answer : checked text ≡ given (length (rows_of s))
  pub stated : Stated text (rows_of s)
  pub only : (rows : List Row) → Stated text rows → rows ≡ rows_of s

-- the first fault, where the text is no sheet
pub record IsFault (text : List ℕ) (t : Told) : Type 0 where
  pub answer : checked text ≡ refused t
  pub none : (rows : List Row) → ¬ Stated text rows

abbrev pub SheetRead : List ℕ → Result CheckedSheet Told → Type 0
SheetRead text (Ok s) = IsSheet text s
SheetRead text (Err t) = IsFault text t
