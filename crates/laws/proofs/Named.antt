-- Types in which the fields of each record have different names.
use Rattle.std.proofs.Common.{◌≡◌}
use Rattle.meaning.specs.Terms.{Name, Ty, base, void, rec, arr, alt, Fields, none, fld}

-- no field has the name
abbrev pub Fresh : Name → Fields → Type 0
Fresh n none = Unit
Fresh n (fld m τ fs) = ¬ (n ≡ m) × Fresh n fs

abbrev mutual
  pub Named : Ty → Type 0
  Named (base r w) = Unit
  Named (void r) = Unit
  Named (rec r fs) = NamedFields fs
  Named (arr r n τ) = Named τ
  Named (alt r t τ σ) = Named τ × Named σ

  pub NamedFields : Fields → Type 0
  NamedFields none = Unit
  NamedFields (fld n τ fs) = Named τ × Fresh n fs × NamedFields fs
