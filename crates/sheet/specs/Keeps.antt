-- The rules of a sheet, each said by itself.
use Rattle.std.specs.Prelude.{◌≡◌, ℕ, zero, suc, ◌+◌, ◌-◌, ◌^◌, ◌<◌, ◌≤◌, ◌⊎◌, List, length, take}
use Rattle.std.specs.Prelude.{drop, ◌≢◌}
use Rattle.sheet_text.specs.Plain.{ProperName}
use Rattle.sheet_text.specs.declared.row.Row.{Row}
use Rattle.sheet_text.specs.declared.row.Span.{Span}
use Rattle.sheet_text.specs.declared.row.Column.{Column}
use Rattle.sheet_text.specs.declared.row.Column.TheVariants as column
use Rattle.sheet_text.specs.declared.word.Word.TheVariants as word
use Rattle.sheet_text.specs.declared.word.TypeWord.TheVariants as type
use Rattle.sheet.specs.Rules.{family_of, rule_of}
use Rattle.sheet.specs.Checks.{word_at, row_at}
use Rattle.sheet.specs.Fields.{name_in}
use Rattle.sheet.specs.Nests.{Depth}
use Rattle.sheet.specs.declared.rule.Family.{Family}
use Rattle.sheet.specs.declared.rule.Family.TheVariants as family
use Rattle.sheet.specs.declared.rule.Need.{Need}
use Rattle.sheet.specs.declared.rule.Need.TheVariants as need

-- row n stands after row k, exists, and is of the family
pub record LaterRow (rows : List Row) (k : ℕ) (f : Family) (n : ℕ) : Type 0 where
  pub later : k < n
  pub exists : n < length rows
  pub family : family_of (word_at rows n) ≡ f

-- the part lies inside the text, and is a name
pub record NameInside (text : List ℕ) (s : Span) : Type 0 where
  pub inside : s.at + s.len ≤ length text
  pub proper : ProperName (take s.len (drop s.at text))

-- the column is a number up to a limit
abbrev pub NumberUpTo : ℕ → Column → Type 0
NumberUpTo most c = (n : ℕ) × ((c ≡ column.Number n) × (n ≤ most))

-- the column names a later row of the family
abbrev pub Names : List Row → ℕ → Family → Column → Type 0
Names rows k f c = (n : ℕ) × ((c ≡ column.Number n) × LaterRow rows k f n)

-- the column of row k holds what its word asks for
abbrev pub Holds : List ℕ → List Row → ℕ → Need → Column → Type 0
Holds text rows k need.Blank c = c ≡ column.Blank
Holds text rows k need.Name c = (s : Span) × ((c ≡ column.Name s) × NameInside text s)
Holds text rows k need.Number c = NumberUpTo (2 ^ 63 - 1) c
Holds text rows k need.Climb c = NumberUpTo 8 c
Holds text rows k (need.Row f) c = Names rows k f c
Holds text rows k (need.RowOrBlank f) c = (c ≡ column.Blank) ⊎ Names rows k f c

-- every column of row k is as its word asks
pub record AsAsked (text : List ℕ) (rows : List Row) (k : ℕ) (r : Row) : Type 0 where
  pub name : Holds text rows k (rule_of r.word).name r.name
  pub one : Holds text rows k (rule_of r.word).one r.one
  pub two : Holds text rows k (rule_of r.word).two r.two
  pub three : Holds text rows k (rule_of r.word).three r.three

-- row a is field i, counted from 0, of those that a column begins
abbrev pub FieldAt : List Row → Column → ℕ → ℕ → Type 0
FieldAt rows c zero a = (c ≡ column.Number a) × (a < length rows)
FieldAt rows c (suc i) a = (b : ℕ)
    × ((c ≡ column.Number b) × (b < length rows) × FieldAt rows (row_at rows b).two i a)

-- the name of a row
abbrev pub name_at : List ℕ → List Row → ℕ → List ℕ
name_at text rows a = name_in text (row_at rows a).name

-- no two fields of the record in row k have one name
abbrev pub NamesDiffer : List ℕ → List Row → ℕ → Type 0
NamesDiffer text rows k =
    (i j a b : ℕ) → i < j → FieldAt rows (row_at rows k).one i a
    → FieldAt rows (row_at rows k).one j b → name_at text rows a ≢ name_at text rows b

-- rows over a text keep every rule of a sheet
pub record Keeps (text : List ℕ) (rows : List Row) : Type 0 where
  pub some : 1 ≤ length rows
  pub few : length rows ≤ 256
  pub first : family_of (word_at rows 0) ≡ family.Type
  pub columns : (k : ℕ) → k < length rows → AsAsked text rows k (row_at rows k)
  pub names : (k : ℕ) → k < length rows → word_at rows k ≡ word.Type type.Rec
      → NamesDiffer text rows k
  pub depths : (k : ℕ) → k < length rows → family_of (word_at rows k) ≡ family.Type
      → (d : ℕ) × (Depth rows k d × (d ≤ 8))
