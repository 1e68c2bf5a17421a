-- Families by their ranks.
use Rattle.std.proofs.Common.{◌≡◌, ℕ, zero, suc, true, sym, refl, ap, ◌∙◌, eq-eqb, eqb-true}
use Rattle.sheet.specs.Checks.{rank, same_family}
use Rattle.sheet.specs.declared.rule.Family.{Family}
use Rattle.sheet.specs.declared.rule.Family.TheVariants as family

abbrev ranked : ℕ → Family
ranked zero = family.Type
ranked (suc zero) = family.Field
ranked (suc (suc zero)) = family.Number
ranked (suc (suc (suc zero))) = family.Truth
ranked (suc (suc (suc (suc zero)))) = family.From
ranked (suc (suc (suc (suc (suc n))))) = family.Step

back : (f : Family) → ranked (rank f) ≡ f
back family.Type = refl
back family.Field = refl
back family.Number = refl
back family.Truth = refl
back family.From = refl
back family.Step = refl

pub same_is : (a b : Family) → same_family a b ≡ true → a ≡ b
same_is a b e = sym (back a) ∙ ap ranked (eqb-true (rank a) (rank b) e) ∙ back b

pub same_from : (a b : Family) → a ≡ b → same_family a b ≡ true
same_from a b e = eq-eqb (rank a) (rank b) (ap rank e)
