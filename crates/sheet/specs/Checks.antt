-- The rules that the rows of a sheet keep.
use Rattle.std.specs.Prelude.{◌≡◌, ℕ, ◌+◌, ◌-◌, ◌<◌, Bool, true, false, cond, ◌&&◌, ◌||◌, List, []}
use Rattle.std.specs.Prelude.{◌∷◌, length, take, drop, Some, None, Option, ◌==◌, nat_le, nat_lt}
use Rattle.std.specs.Prelude.{slice_index_or, unwrap_or}
use Rattle.sheet.specs.Rules.{family_of, rule_of}
use Rattle.sheet.specs.declared.rule.Family.{Family}
use Rattle.sheet.specs.declared.rule.Family.TheVariants as family
use Rattle.sheet.specs.declared.rule.Need.{Need}
use Rattle.sheet.specs.declared.rule.Need.TheVariants as need
use Rattle.sheet_text.specs.Chars.{is_name}
use Rattle.sheet_text.specs.Columns.{number_in}
use Rattle.sheet_text.specs.declared.row.Row.{Row}
use Rattle.sheet_text.specs.declared.row.Span.{Span}
use Rattle.sheet_text.specs.declared.row.Column.{Column}
use Rattle.sheet_text.specs.declared.row.Column.TheVariants as column
use Rattle.sheet_text.specs.declared.word.Word.{Word}
use Rattle.sheet_text.specs.declared.word.Word.TheVariants as word
use Rattle.sheet_text.specs.declared.word.TypeWord.TheVariants as type

abbrev pub rank : Family → ℕ
rank family.Type = 0
rank family.Field = 1
rank family.Number = 2
rank family.Truth = 3
rank family.From = 4
rank family.Step = 5

abbrev pub same_family : Family → Family → Bool
same_family a b = rank a == rank b

-- what stands for a row past the last: void
abbrev pub no_row : Row
no_row =
    record {
      word = word.Type type.Void;
      name = column.Blank;
      one = column.Blank;
      two = column.Blank;
      three = column.Blank;
    }

-- the row with a number; past the last row, void
abbrev pub row_at : List Row → ℕ → Row
row_at rows k = slice_index_or rows k no_row

abbrev pub word_at : List Row → ℕ → Word
word_at rows k = (row_at rows k).word

-- a column of row k that names a later row of the family
abbrev pub refers : List Row → ℕ → Family → Column → Bool
refers rows k f (column.Number n) =
    nat_lt k n && (nat_lt n (length rows) && same_family (family_of (word_at rows n)) f)
refers rows k f (column.Name s) = false
refers rows k f column.Blank = false

-- the row that a column names, where it names one
abbrev pub target : Column → ℕ
target c = unwrap_or (number_in c) 0

abbrev pub is_blank : Column → Bool
is_blank column.Blank = true
is_blank (column.Number n) = false
is_blank (column.Name s) = false

-- a part of the text that is a name
abbrev pub names_part : List ℕ → Span → Bool
names_part text s = nat_le s.at (length text) &&
    (nat_le s.len (length text - s.at) && is_name (take s.len (drop s.at text)))

abbrev pub is_named : List ℕ → Column → Bool
is_named text column.Blank = false
is_named text (column.Number n) = false
is_named text (column.Name s) = names_part text s

abbrev pub is_numeric : Column → Bool
is_numeric column.Blank = false
is_numeric (column.Number n) = nat_le n 0x7fff_ffff_ffff_ffff
is_numeric (column.Name s) = false

abbrev pub is_climb : Column → Bool
is_climb column.Blank = false
is_climb (column.Number n) = nat_le n 8
is_climb (column.Name s) = false

-- a column of row k holds what it has to
abbrev pub meets : List ℕ → List Row → ℕ → Need → Column → Bool
meets text rows k need.Blank c = is_blank c
meets text rows k need.Name c = is_named text c
meets text rows k need.Number c = is_numeric c
meets text rows k need.Climb c = is_climb c
meets text rows k (need.Row f) c = refers rows k f c
meets text rows k (need.RowOrBlank f) c = is_blank c || refers rows k f c

-- row k keeps its word's rule, and row 0 is a type
abbrev pub keeps_rule : List ℕ → List Row → ℕ → Row → Bool
keeps_rule text rows k r =
    meets text rows k (rule_of r.word).name r.name
    && (meets text rows k (rule_of r.word).one r.one
    && (meets text rows k (rule_of r.word).two r.two
    && (meets text rows k (rule_of r.word).three r.three
    && (nat_lt 0 k || same_family (family_of r.word) family.Type))))

-- the first row that fails a test, of those from row k on
abbrev pub first_failing : (ℕ → Row → Bool) → ℕ → List Row → Option ℕ
first_failing p k [] = None
first_failing p k (r ∷ rs) = cond (p k r) (first_failing p (k + 1) rs) (Some k)

-- at each row, what is given for the row is what p says of it
abbrev pub Tests : (ℕ → Row → Bool → Type 0) → (ℕ → Row → Bool) → List Row → Type 0
Tests gives p rows = (k : ℕ) → k < length rows → (b : Bool)
    → gives k (row_at rows k) b → b ≡ p k (row_at rows k)
