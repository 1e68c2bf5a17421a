-- How many turns open rows take, and how many rows can be open.
use Rattle.std.specs.Prelude.{◌≡◌, ℕ, suc, ◌+◌, ◌*◌, ◌<◌, ◌≤◌, List, [], ◌∷◌, length, Some, None, Option}
use Rattle.sheet.specs.Checks.{word_at}
use Rattle.sheet.specs.Rules.{family_of}
use Rattle.sheet.specs.declared.rule.Family.TheVariants as family
use Rattle.sheet_text.specs.declared.row.Row.{Row}
use Rattle.meaning.specs.Terms.{Ty, base, void, rec, arr, alt, Fields, none, fld}
use Rattle.meaning.specs.Stands.{type_at, fields_at}
use Rattle.laws.specs.Nesting.{depth, depth_fields}
use Rattle.walk.specs.Frames.{Open, in_front, in_record, in_array}

-- a bound on the turns that a type takes
abbrev mutual
  pub turns : Ty → ℕ
  turns (base r w) = 1
  turns (void r) = 1
  turns (rec r fs) = 2 + turns_fields fs
  turns (arr r n τ) = 2 + 65535 * (1 + turns τ)
  turns (alt r t τ σ) = 1 + turns τ + turns σ

  pub turns_fields : Fields → ℕ
  turns_fields none = 0
  turns_fields (fld n τ fs) = 1 + turns τ + turns_fields fs

-- a row that is a type
abbrev pub TypeRow : List Row → ℕ → Type 0
TypeRow rows r = (r < length rows) × (family_of (word_at rows r) ≡ family.Type)

-- a reference that leads to a field, or nowhere
abbrev pub NoneOrField : List Row → Option ℕ → Type 0
NoneOrField rows None = Unit {0}
NoneOrField rows (Some f) = (f < length rows) × (family_of (word_at rows f) ≡ family.Field)

module _ (text : List ℕ) (rows : List Row) where
  abbrev pub turns_of : Open → ℕ
  turns_of (in_front P O r) = turns (type_at text rows r)
  turns_of (in_record P O f) = 1 + turns_fields (fields_at text rows f)
  turns_of (in_array P O t i k) = 1 + k * (1 + turns (type_at text rows t))

  abbrev pub turns_left : List Open → ℕ
  turns_left [] = 0
  turns_left (f ∷ K) = turns_of f + turns_left K

  -- an open row leaves room for the steps and the records below it
  abbrev pub Shallow : Open → ℕ → Type 0
  Shallow (in_front P O r) n = (length P + depth (type_at text rows r) ≤ 8) × (length O ≤ length P) × (n ≤ length P) × TypeRow rows r
  Shallow (in_record P O f) n = (length P + depth_fields (fields_at text rows f) ≤ 8) × (length O ≤ suc (length P)) × (n ≤ length P) × NoneOrField rows f
  Shallow (in_array P O t i k) n = (length P + suc (depth (type_at text rows t)) ≤ 8) × (length O ≤ length P) × (n ≤ length P) × TypeRow rows t

  -- all of them do, and no more rows are open around each than its path has steps
  abbrev pub AllShallow : List Open → Type 0
  AllShallow [] = Unit {0}
  AllShallow (f ∷ K) = Shallow f (length K) × AllShallow K
