-- The order of the checks.
use Rattle.std.proofs.Common.{◌≡◌, ℕ, ◌+◌, ◌<◌, ◌≤◌, cond, ltb, Some, None, Ok, Err, Option, refl, ap, ◌∙◌, arith, le-ltb, lt-ltb, eq-eqb, ne_eqb}
use Rattle.sheet.specs.Verdict.{fault, fault_or, first_fault, answer}
use Rattle.sheet_text.specs.declared.refusal.Reason.{Reason}
use Rattle.sheet_text.specs.declared.refusal.Reason.TheVariants as reason
use Rattle.sheet_text.specs.declared.refusal.SheetRefusal.{SheetRefusal}

module _ (n : ℕ) (a b d : Option ℕ) where
  pub no_rows : n ≡ 0 → first_fault n a b d ≡ fault reason.Count 1
  no_rows e =
      ap (λ t. cond t (fault reason.Count 1) (cond (ltb 256 n) (fault reason.Count 258) (fault_or reason.Column a (fault_or reason.Field b (fault_or reason.Depth d None))))) (eq-eqb n 0 e)

  some_rows : 0 < n → first_fault n a b d ≡ cond (ltb 256 n) (fault reason.Count 258) (fault_or reason.Column a (fault_or reason.Field b (fault_or reason.Depth d None)))
  some_rows h =
      ap (λ t. cond t (fault reason.Count 1) (cond (ltb 256 n) (fault reason.Count 258) (fault_or reason.Column a (fault_or reason.Field b (fault_or reason.Depth d None))))) (ne_eqb n 0 (λ e. omega arith))

  pub many_rows : 256 < n → first_fault n a b d ≡ fault reason.Count 258
  many_rows h =
      some_rows (omega arith)
      ∙ ap (λ t. cond t (fault reason.Count 258) (fault_or reason.Column a (fault_or reason.Field b (fault_or reason.Depth d None)))) (lt-ltb 256 n h)

  pub few_rows : 0 < n → n ≤ 256 → first_fault n a b d ≡ fault_or reason.Column a (fault_or reason.Field b (fault_or reason.Depth d None))
  few_rows h l =
      some_rows h
      ∙ ap (λ t. cond t (fault reason.Count 258) (fault_or reason.Column a (fault_or reason.Field b (fault_or reason.Depth d None)))) (le-ltb 256 n l)

  pub column_fault_lem : 0 < n → n ≤ 256 → (k : ℕ) → a ≡ Some k → first_fault n a b d ≡ fault reason.Column (k + 2)
  column_fault_lem h l k e = few_rows h l ∙ ap (λ o. fault_or reason.Column o (fault_or reason.Field b (fault_or reason.Depth d None))) e

  module _ (h : 0 < n) (l : n ≤ 256) (kept : a ≡ None) where
    past_columns : first_fault n a b d ≡ fault_or reason.Field b (fault_or reason.Depth d None)
    past_columns = few_rows h l ∙ ap (λ o. fault_or reason.Column o (fault_or reason.Field b (fault_or reason.Depth d None))) kept

    pub field_fault_lem : (k : ℕ) → b ≡ Some k → first_fault n a b d ≡ fault reason.Field (k + 2)
    field_fault_lem k e = past_columns ∙ ap (λ o. fault_or reason.Field o (fault_or reason.Depth d None)) e

    module _ (apart : b ≡ None) where
      depth_left : first_fault n a b d ≡ fault_or reason.Depth d None
      depth_left = past_columns ∙ ap (λ o. fault_or reason.Field o (fault_or reason.Depth d None)) apart

      pub depth_fault_lem : (k : ℕ) → d ≡ Some k → first_fault n a b d ≡ fault reason.Depth (k + 2)
      depth_fault_lem k e = depth_left ∙ ap (λ o. fault_or reason.Depth o None) e

      pub no_fault : d ≡ None → first_fault n a b d ≡ None
      no_fault e = depth_left ∙ ap (λ o. fault_or reason.Depth o None) e

-- a check that refuses does so whatever comes later
pub stops : (e : Reason) (o : Option ℕ) (later : Option SheetRefusal) (f : SheetRefusal) → Err f ≡ answer (fault_or e o None) → Err f ≡ answer (fault_or e o later)
stops e None later f is = let z : ◌≡◌ {A = ℕ} 0 1 = cc in absurd (omega arith)
stops e (Some k) later f is = is

-- and one that does not leaves it to the later ones
pub passes : (e : Reason) (o : Option ℕ) (later : Option SheetRefusal) → Ok tt ≡ answer (fault_or e o None) → fault_or e o later ≡ later
passes e None later is = refl
passes e (Some k) later is = let z : ◌≡◌ {A = ℕ} 0 1 = cc in absurd (omega arith)
