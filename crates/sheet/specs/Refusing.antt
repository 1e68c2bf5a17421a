-- What a refusal of rows says about them.
use Rattle.std.specs.Prelude.{◌≡◌, ℕ, ◌+◌, ◌<◌, ◌≤◌, ◌⊎◌, List, length}
use Rattle.sheet_text.specs.declared.refusal.Reason.{Reason}
use Rattle.sheet_text.specs.declared.refusal.Reason.TheVariants as reason
use Rattle.sheet_text.specs.declared.row.Row.{Row}
use Rattle.sheet_text.specs.declared.word.Word.TheVariants as word
use Rattle.sheet_text.specs.declared.word.TypeWord.TheVariants as type
use Rattle.sheet.specs.Rules.{family_of}
use Rattle.sheet.specs.Checks.{word_at, row_at}
use Rattle.sheet.specs.Nests.{Depth}
use Rattle.sheet.specs.Keeps.{AsAsked, FieldAt, name_at}
use Rattle.sheet.specs.declared.rule.Family.TheVariants as family

-- row k keeps its word's rule, and is a type where it is the first
abbrev pub KeepsRule : List ℕ → List Row → ℕ → Type 0
KeepsRule text rows k = AsAsked text rows k (row_at rows k)
    × (k ≡ 0 → family_of (word_at rows k) ≡ family.Type)

-- two fields of the record in row k have one name
pub record NameTwice (text : List ℕ) (rows : List Row) (k : ℕ) : Type 0 where
  pub is_record : word_at rows k ≡ word.Type type.Rec
  pub i : ℕ
  pub j : ℕ
  pub a : ℕ
  pub b : ℕ
  pub before : i < j
  pub first : FieldAt rows (row_at rows k).one i a
  pub second : FieldAt rows (row_at rows k).one j b
  pub same : name_at text rows a ≡ name_at text rows b

-- row k is a type that is more than eight deep
pub record TooDeep (rows : List Row) (k : ℕ) : Type 0 where
  pub is_type : family_of (word_at rows k) ≡ family.Type
  pub depth : ℕ
  pub is : Depth rows k depth
  pub above : 8 < depth

-- no row has the fault
abbrev pub Nowhere : List Row → (ℕ → Type 0) → Type 0
Nowhere rows Fault = (k : ℕ) → k < length rows → Fault k → ⊥

-- row k is the lowest that has the fault, and the line is its line
pub record Lowest (rows : List Row) (Fault : ℕ → Type 0) (line : ℕ) : Type 0 where
  pub k : ℕ
  pub line_of : line ≡ k + 2
  pub exists : k < length rows
  pub here : Fault k
  pub lower : (j : ℕ) → j < k → Fault j → ⊥

-- there are 1 to 256 rows
abbrev pub Counted : List Row → Type 0
Counted rows = (1 ≤ length rows) × (length rows ≤ 256)

-- every row keeps its word's rule
abbrev pub AllKeepRules : List ℕ → List Row → Type 0
AllKeepRules text rows = (k : ℕ) → k < length rows → KeepsRule text rows k

-- what is said of rows over a text by a refusal with its reason and line
abbrev pub Refused : List ℕ → List Row → Reason → ℕ → Type 0
Refused text rows reason.Header line = ⊥
Refused text rows reason.Line line = ⊥
Refused text rows reason.Word line = ⊥
Refused text rows reason.Count line =
    ((length rows ≡ 0) × (line ≡ 1)) ⊎ ((256 < length rows) × (line ≡ 258))
Refused text rows reason.Column line = Counted rows
    × Lowest rows (λ k. KeepsRule text rows k → ⊥) line
Refused text rows reason.Field line = Counted rows × AllKeepRules text rows
    × Lowest rows (NameTwice text rows) line
Refused text rows reason.Depth line =
    Counted rows × AllKeepRules text rows × Nowhere rows (NameTwice text rows)
    × Lowest rows (TooDeep rows) line
