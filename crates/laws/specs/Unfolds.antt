-- What a row stands for is built from what its parts stand for.
use Rattle.std.specs.Prelude.{◌≡◌, ℕ, List, Some, None}
use Rattle.sheet.specs.Checks.{row_at}
use Rattle.sheet_text.specs.declared.row.Row.{Row}
use Rattle.meaning.specs.Terms.{Num, Steps, Truth, Ty, Fields, end, none}
use Rattle.meaning.specs.Stands.{number_by, steps_by, truth_by, type_by, fields_by}
use Rattle.meaning.specs.Stands.{number_at, steps_at, truth_at, type_at, fields_at}

-- a row in hand, by its word and columns, over what the rows that it refers to stand for
module _ (text : List ℕ) (rows : List Row) where
  abbrev pub number_of : Row → Num
  number_of r = number_by text rows r.word r (number_at text rows) (steps_at text rows)

  abbrev pub steps_of : Row → Steps
  steps_of r = steps_by text rows r.word r (number_at text rows) (steps_at text rows)

  abbrev pub truth_of : Row → Truth
  truth_of r =
      truth_by text rows r.word r (truth_at text rows) (number_at text rows) (steps_at text rows)

  abbrev pub type_of : ℕ → Row → Ty
  type_of k r =
      type_by text rows k r.word r
      (type_at text rows) (fields_at text rows) (number_at text rows) (truth_at text rows)

  abbrev pub fields_of : Row → Fields
  fields_of r = fields_by text rows r.word r (type_at text rows) (fields_at text rows)

-- each row is that
pub record Unfolds (text : List ℕ) (rows : List Row) : Type 0 where
  pub number : (r : ℕ) → number_at text rows r ≡ number_of text rows (row_at rows r)
  pub steps : (r : ℕ) → steps_at text rows (Some r) ≡ steps_of text rows (row_at rows r)
  pub truth : (r : ℕ) → truth_at text rows r ≡ truth_of text rows (row_at rows r)
  pub type : (r : ℕ) → type_at text rows r ≡ type_of text rows r (row_at rows r)
  pub fields : (r : ℕ) → fields_at text rows (Some r) ≡ fields_of text rows (row_at rows r)
  -- a blank ends the steps of a location and the fields of a record
  pub steps_end : steps_at text rows None ≡ end
  pub fields_end : fields_at text rows None ≡ none
