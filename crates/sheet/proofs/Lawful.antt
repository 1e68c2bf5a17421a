-- What holds of the rows of every sheet.
use Rattle.std.proofs.Common.{◌≡◌, ℕ, zero, suc, ◌+◌, ◌<◌, ◌≤◌, Bool, true, false, cond, not, eqb, ltb, List, [], ◌∷◌, length, get_or, is_some, Some, None, Option, sym, refl, ap, ◌∙◌, arith, false-eqb}
use borrow.Author.Tests.{false-ltb}
use Rattle.sheet.specs.Checks.{keeps_rule, first_failing, no_row}
use Rattle.sheet.specs.Verdict.{fault, fault_or, column_fault, field_fault, depth_fault, verdict, lawful}
use Rattle.sheet_text.specs.declared.refusal.Reason.TheVariants as reason
use Rattle.sheet_text.specs.declared.row.Row.{Row}

none_of : {A : Type 0} (o : Option A) → not (is_some o) ≡ true → o ≡ None
none_of None e = refl
none_of (Some x) e = let z : ◌≡◌ {A = ℕ} 0 1 = cc in absurd (omega arith)

-- every part of a verdict without a fault
pub record Clear (t u : Bool) (a b d : Option ℕ) : Type 0 where
  pub some : t ≡ false
  pub few : u ≡ false
  pub columns : a ≡ None
  pub fields : b ≡ None
  pub depth : d ≡ None

clear : (t u : Bool) (a b d : Option ℕ) → cond t (fault reason.Count 1) (cond u (fault reason.Count 258) (fault_or reason.Column a (fault_or reason.Field b (fault_or reason.Depth d None)))) ≡ None → Clear t u a b d
clear true u a b d e = let z : ◌≡◌ {A = ℕ} 0 1 = cc in absurd (omega arith)
clear false true a b d e = let z : ◌≡◌ {A = ℕ} 0 1 = cc in absurd (omega arith)
clear false false (Some k) b d e = let z : ◌≡◌ {A = ℕ} 0 1 = cc in absurd (omega arith)
clear false false None (Some k) d e = let z : ◌≡◌ {A = ℕ} 0 1 = cc in absurd (omega arith)
clear false false None None (Some k) e = let z : ◌≡◌ {A = ℕ} 0 1 = cc in absurd (omega arith)
clear false false None None None e = record { some = refl; few = refl; columns = refl; fields = refl; depth = refl }

module _ (text : List ℕ) (rows : List Row) (ok : lawful text rows ≡ true) where
  parts : Clear (eqb (length rows) 0) (ltb 256 (length rows)) (column_fault text rows) (field_fault text rows) (depth_fault rows)
  unfolding verdict
  parts = clear _ _ _ _ _ (none_of (verdict text rows) ok)

  pub some_rows : 0 < length rows
  some_rows = let h = false-eqb (length rows) 0 (sym parts.some) in omega arith

  pub few_rows : length rows ≤ 256
  few_rows = false-ltb 256 (length rows) (sym parts.few)

  pub columns_kept : column_fault text rows ≡ None
  columns_kept = parts.columns

  pub fields_apart : field_fault text rows ≡ None
  fields_apart = parts.fields

  pub depths_kept : depth_fault rows ≡ None
  depths_kept = parts.depth

-- where no row fails a test, each passes it
chosen : (t : Bool) (o : Option ℕ) (k : ℕ) → cond t o (Some k) ≡ None → (t ≡ true) × (o ≡ None)
chosen true o k e = (refl, e)
chosen false o k e = let z : ◌≡◌ {A = ℕ} 0 1 = cc in absurd (omega arith)

pub each_passes : (p : ℕ → Row → Bool) (k : ℕ) (rs : List Row) → first_failing p k rs ≡ None → (i : ℕ) → i < length rs → p (k + i) (get_or rs i no_row) ≡ true
each_passes p k [] e i h = absurd (omega arith)
each_passes p k (r ∷ rs) e zero h =
    let same : k + 0 ≡ k = omega arith in
    ap (λ n. p n r) same ∙ (chosen (p k r) _ k e).0
each_passes p k (r ∷ rs) e (suc i) h =
    let same : k + suc i ≡ k + 1 + i = omega arith in
    ap (λ n. p n (get_or rs i no_row)) same ∙ each_passes p (k + 1) rs (chosen (p k r) _ k e).1 i (omega arith)

-- each row of a sheet keeps its word's rule
pub row_kept : (text : List ℕ) (rows : List Row) → lawful text rows ≡ true → (k : ℕ) → k < length rows → keeps_rule text rows k (get_or rows k no_row) ≡ true
row_kept text rows ok k h =
    let same : k ≡ 0 + k = omega arith in
    ap (λ n. keeps_rule text rows n (get_or rows k no_row)) same ∙ each_passes (keeps_rule text rows) 0 rows (columns_kept text rows ok) k h
