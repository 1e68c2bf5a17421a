-- How deep the types of a sheet nest.
use Rattle.std.specs.Prelude.{ℕ, ◌+◌, ◌-◌, max, Bool, cond, not, ◌&&◌, List, [], ◌∷◌, nat_lt, slice_index}
use Rattle.sheet.specs.Checks.{same_family}
use Rattle.sheet.specs.Rules.{family_of}
use Rattle.sheet.specs.declared.rule.Family.TheVariants as family
use Rattle.sheet_text.specs.declared.row.Row.{Row}
use Rattle.sheet_text.specs.declared.row.Column.{Column}
use Rattle.sheet_text.specs.declared.row.Column.TheVariants as column
use Rattle.sheet_text.specs.declared.word.Word.{Word}
use Rattle.sheet_text.specs.declared.word.Word.TheVariants as word
use Rattle.sheet_text.specs.declared.word.TypeWord.TheVariants as type

-- the entry of the later row that a column of row k names; ds are the entries from row k + 1 on
abbrev pub depth_in : ℕ → List ℕ → Column → ℕ
depth_in k ds (column.Number n) = cond (nat_lt k n) (slice_index ds (n - (k + 1))) 0
depth_in k ds (column.Name s) = 0
depth_in k ds column.Blank = 0

-- one deeper than the fields, or 0 without fields
abbrev pub record_depth : Column → ℕ → ℕ
record_depth column.Blank d = 0
record_depth (column.Number n) d = d + 1
record_depth (column.Name s) d = d + 1

-- how a word nests
pub data Shape : Type 0 where
  plain : Shape
  of_fields : Shape
  of_elements : Shape
  of_choices : Shape
  field_of : Shape

abbrev pub shape_of : Word → Shape
shape_of (word.Type (type.Base b)) = plain
shape_of (word.Type type.Void) = plain
shape_of (word.Type type.Rec) = of_fields
shape_of (word.Type type.Arr) = of_elements
shape_of (word.Type type.Alt) = of_choices
shape_of word.Field = field_of
shape_of (word.Number w) = plain
shape_of (word.Truth w) = plain
shape_of word.From = plain
shape_of (word.Step w) = plain

-- the entry of row k: the depth of a type, and of a field the largest depth of its type and those of the fields after it
abbrev pub depth_as : Shape → ℕ → Row → List ℕ → ℕ
depth_as plain k r ds = 0
depth_as of_fields k r ds = record_depth r.one (depth_in k ds r.one)
depth_as of_elements k r ds = depth_in k ds r.one + 1
depth_as of_choices k r ds = max (depth_in k ds r.two) (depth_in k ds r.three)
depth_as field_of k r ds = max (depth_in k ds r.one) (depth_in k ds r.two)

abbrev pub row_depth : ℕ → Row → List ℕ → ℕ
row_depth k r ds = depth_as (shape_of r.word) k r ds

-- the entries of the rows from row k on
unfoldable pub entries : ℕ → List Row → List ℕ
entries k [] = []
entries k (r ∷ rs) = row_depth k r (entries (k + 1) rs) ∷ entries (k + 1) rs

-- row k is no type, or its depth is at most 8
abbrev pub shallow : List ℕ → ℕ → Row → Bool
shallow ds k r = not (same_family (family_of r.word) family.Type && nat_lt 8 (slice_index ds k))
