-- The names of a record's fields.
use Rattle.std.specs.Prelude.{ℕ, zero, suc, Bool, true, false, cond, not, ◌&&◌, ◌||◌, List, [], ◌∷◌}
use Rattle.std.specs.Prelude.{length, take, drop, Some, None, Option, nat_lt}
use Rattle.std.specs.Str.{bytes_eq}
use Rattle.sheet.specs.Checks.{row_at}
use Rattle.sheet_text.specs.declared.row.Row.{Row}
use Rattle.sheet_text.specs.declared.row.Column.{Column}
use Rattle.sheet_text.specs.declared.row.Column.TheVariants as column
use Rattle.sheet_text.specs.declared.word.Word.{Word}
use Rattle.sheet_text.specs.declared.word.Word.TheVariants as word
use Rattle.sheet_text.specs.declared.word.TypeWord.TheVariants as type

-- the bytes of a column's name
abbrev pub name_in : List ℕ → Column → List ℕ
name_in text (column.Name s) = take s.len (drop s.at text)
name_in text (column.Number n) = []
name_in text column.Blank = []

-- the row that a column names
abbrev pub field_in : List Row → Column → Option Row
field_in rows (column.Number n) = cond (nat_lt n (length rows)) (Some (row_at rows n)) None
field_in rows (column.Name s) = None
field_in rows column.Blank = None

abbrev pub where_some : Option Row → (Row → List (List ℕ)) → List (List ℕ)
where_some None f = []
where_some (Some r) f = f r

-- the names of the fields that a column begins, at most so many
unfoldable pub chain_names : ℕ → List ℕ → List Row → Column → List (List ℕ)
chain_names zero text rows c = []
chain_names (suc n) text rows c = where_some (field_in rows c)
    (λ f. name_in text f.name ∷ chain_names n text rows f.two)

abbrev pub member : List ℕ → List (List ℕ) → Bool
member x [] = false
member x (y ∷ ys) = bytes_eq x y || member x ys

abbrev pub distinct : List (List ℕ) → Bool
distinct [] = true
distinct (x ∷ xs) = not (member x xs) && distinct xs

abbrev pub is_record : Word → Bool
is_record (word.Type (type.Base b)) = false
is_record (word.Type type.Void) = false
is_record (word.Type type.Rec) = true
is_record (word.Type type.Arr) = false
is_record (word.Type type.Alt) = false
is_record word.Field = false
is_record (word.Number w) = false
is_record (word.Truth w) = false
is_record word.From = false
is_record (word.Step w) = false

-- the fields of a record have different names
abbrev pub fields_differ : List ℕ → List Row → Row → Bool
fields_differ text rows r = not (is_record r.word) || distinct
    (chain_names (length rows) text rows r.one)
