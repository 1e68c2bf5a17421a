-- What a row stands for, as a term: references followed as far as they go. Since they all lead to
-- higher rows, as many turns as there are rows suffice.
use Rattle.std.specs.Prelude.{ℕ, zero, suc, List, length, Some, None, Option}
use Rattle.sheet.specs.Checks.{target, row_at}
use Rattle.sheet.specs.Fields.{name_in}
use Rattle.sheet_text.specs.Columns.{number_in}
use Rattle.sheet_text.specs.declared.row.Row.{Row}
use Rattle.sheet_text.specs.declared.word.Word.{Word}
use Rattle.sheet_text.specs.declared.word.Word.TheVariants as word
use Rattle.sheet_text.specs.declared.word.Base.{Base}
use Rattle.sheet_text.specs.declared.word.TypeWord.TheVariants as type
use Rattle.sheet_text.specs.declared.word.NumberWord.TheVariants as number
use Rattle.sheet_text.specs.declared.word.TruthWord.TheVariants as truth
use Rattle.sheet_text.specs.declared.word.StepWord.TheVariants as step
use Rattle.meaning.specs.Terms.{Num, no_number, lit, loc, add, mul, Steps, no_steps, end, dot, idx}
use Rattle.meaning.specs.Terms.{Truth, no_truth, yea, nay, bloc, not, both, either, eq, lt}
use Rattle.meaning.specs.Terms.{Ty, void, rec, arr, alt, Fields, none, fld}
use Rattle.meaning.specs.Terms

-- the base word of a row, if it has one
abbrev pub base_of : Word → Option Base
base_of (word.Type (type.Base b)) = Some b
base_of _ = None

abbrev pub base_at : List Row → ℕ → Option Base
base_at rows r = base_of (row_at rows r).word

-- A row by its word, its columns, and what its references stand for; or what stands for no such
-- row.
abbrev pub from_by : {X : Type 0} → Word → Row → (Option ℕ → Steps) → (ℕ → Steps → X) → X → X
from_by word.From r S f other = f (target r.one) (S (number_in r.two))
from_by _ r S f other = other

module _ (text : List ℕ) (rows : List Row) where
  -- the location of row r
  abbrev pub from_at : {X : Type 0} → ℕ → (Option ℕ → Steps) → (ℕ → Steps → X) → X → X
  from_at r S f other = from_by (row_at rows r).word (row_at rows r) S f other

  abbrev pub number_by : Word → Row → (ℕ → Num) → (Option ℕ → Steps) → Num
  number_by (word.Number number.Lit) r N S = lit (target r.one)
  number_by (word.Number number.Loc) r N S = from_at (target r.one) S loc no_number
  number_by (word.Number number.Add) r N S = add (N (target r.one)) (N (target r.two))
  number_by (word.Number number.Mul) r N S = mul (N (target r.one)) (N (target r.two))
  number_by _ r N S = no_number

  abbrev pub steps_by : Word → Row → (ℕ → Num) → (Option ℕ → Steps) → Steps
  steps_by (word.Step step.Dot) r N S = dot (name_in text r.name) (S (number_in r.one))
  steps_by (word.Step step.Idx) r N S = idx (N (target r.one)) (S (number_in r.two))
  steps_by _ r N S = no_steps

  abbrev pub truth_by : Word → Row → (ℕ → Truth) → (ℕ → Num) → (Option ℕ → Steps) → Truth
  truth_by (word.Truth truth.True) r B N S = yea
  truth_by (word.Truth truth.False) r B N S = nay
  truth_by (word.Truth truth.Bloc) r B N S = from_at (target r.one) S bloc no_truth
  truth_by (word.Truth truth.Not) r B N S = not (B (target r.one))
  truth_by (word.Truth truth.And) r B N S = both (B (target r.one)) (B (target r.two))
  truth_by (word.Truth truth.Or) r B N S = either (B (target r.one)) (B (target r.two))
  truth_by (word.Truth truth.Eq) r B N S = eq (N (target r.one)) (N (target r.two))
  truth_by (word.Truth truth.Lt) r B N S = lt (N (target r.one)) (N (target r.two))
  truth_by _ r B N S = no_truth

  abbrev pub type_by : ℕ → Word → Row → (ℕ → Ty) → (Option ℕ → Fields) → (ℕ → Num) → (ℕ → Truth)
      → Ty
  type_by k (word.Type (type.Base w)) r T F N B = Terms.base k w
  type_by k (word.Type type.Rec) r T F N B = rec k (F (number_in r.one))
  type_by k (word.Type type.Arr) r T F N B = arr k (N (target r.two)) (T (target r.one))
  type_by k (word.Type type.Alt) r T F N B =
      alt k (B (target r.one)) (T (target r.two)) (T (target r.three))
  type_by k _ r T F N B = void k

  abbrev pub fields_by : Word → Row → (ℕ → Ty) → (Option ℕ → Fields) → Fields
  fields_by word.Field r T F = fld (name_in text r.name) (T (target r.one)) (F (number_in r.two))
  fields_by _ r T F = none

  -- the same of row r, with references followed k deep
  abbrev mutual
    pub number_deep : ℕ → ℕ → Num
    number_deep zero r = no_number
    number_deep (suc k) r = number_by (row_at rows r).word (row_at rows r) (number_deep k)
        (steps_deep k)

    pub steps_deep : ℕ → Option ℕ → Steps
    steps_deep zero None = end
    steps_deep zero (Some r) = no_steps
    steps_deep (suc k) None = end
    steps_deep (suc k) (Some r) = steps_by (row_at rows r).word (row_at rows r) (number_deep k)
        (steps_deep k)

  unfoldable pub number_at : ℕ → Num
  number_at r = number_deep (length rows) r

  unfoldable pub steps_at : Option ℕ → Steps
  steps_at o = steps_deep (length rows) o

  abbrev pub truth_deep : ℕ → ℕ → Truth
  truth_deep zero r = no_truth
  truth_deep (suc k) r = truth_by (row_at rows r).word (row_at rows r) (truth_deep k) number_at
      steps_at

  unfoldable pub truth_at : ℕ → Truth
  truth_at r = truth_deep (length rows) r

  abbrev mutual
    pub type_deep : ℕ → ℕ → Ty
    type_deep zero r = void r
    type_deep (suc k) r =
        type_by r (row_at rows r).word (row_at rows r) (type_deep k) (fields_deep k) number_at
        truth_at

    pub fields_deep : ℕ → Option ℕ → Fields
    fields_deep zero o = none
    fields_deep (suc k) None = none
    fields_deep (suc k) (Some r) = fields_by (row_at rows r).word (row_at rows r) (type_deep k)
        (fields_deep k)

  unfoldable pub type_at : ℕ → Ty
  type_at r = type_deep (length rows) r

  unfoldable pub fields_at : Option ℕ → Fields
  fields_at o = fields_deep (length rows) o
