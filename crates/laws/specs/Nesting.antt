-- How deep types nest.
use Rattle.std.specs.Prelude.{ℕ, suc, max}
use Rattle.meaning.specs.Terms.{Ty, base, void, rec, arr, alt, Fields, none, fld}

-- the most steps that a path below a type takes
abbrev mutual
  pub depth : Ty → ℕ
  depth (base r w) = 0
  depth (void r) = 0
  depth (rec r fs) = depth_fields fs
  depth (arr r n τ) = suc (depth τ)
  depth (alt r t τ σ) = max (depth τ) (depth σ)

  -- one more than the largest depth of a field's type, or 0 without fields
  pub depth_fields : Fields → ℕ
  depth_fields none = 0
  depth_fields (fld n τ fs) = max (suc (depth τ)) (depth_fields fs)
