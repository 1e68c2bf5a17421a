-- The chain of a record's fields.
use Rattle.std.proofs.Common.{◌≡◌, ℕ, zero, suc, ◌-◌, ◌<◌, ◌≤◌, List, [], ◌∷◌, Some, None, refl, ap, ◌∙◌, arith}
use Rattle.sheet.specs.Fields.{name_in, field_in, where_some, chain_names}
use Rattle.sheet_text.specs.declared.row.Row.{Row}
use Rattle.sheet_text.specs.declared.row.Column.{Column}

pub chain_end : (text : List ℕ) (rows : List Row) (c : Column) (n : ℕ) → n ≤ 0 → chain_names n text rows c ≡ []
unfolding chain_names
chain_end text rows c zero h = refl
chain_end text rows c (suc n) h = absurd (omega arith)

pub chain_step : (text : List ℕ) (rows : List Row) (c : Column) (n : ℕ) → 0 < n → chain_names n text rows c ≡ where_some (field_in rows c) (λ f. name_in text f.name ∷ chain_names (n - 1) text rows f.two)
unfolding chain_names
chain_step text rows c zero h = absurd (omega arith)
chain_step text rows c (suc n) h =
    let back : n ≡ suc n - 1 = omega arith in
    ap (λ m. where_some (field_in rows c) (λ f. name_in text f.name ∷ chain_names m text rows f.two)) back

module _ (text : List ℕ) (rows : List Row) (c : Column) (n : ℕ) where
  pub chain_none : 0 < n → field_in rows c ≡ None → chain_names n text rows c ≡ []
  chain_none h e =
      chain_step text rows c n h ∙ ap (λ o. where_some o (λ f. name_in text f.name ∷ chain_names (n - 1) text rows f.two)) e

  pub chain_some : 0 < n → (f : Row) → field_in rows c ≡ Some f → chain_names n text rows c ≡ name_in text f.name ∷ chain_names (n - 1) text rows f.two
  chain_some h f e =
      chain_step text rows c n h ∙ ap (λ o. where_some o (λ f. name_in text f.name ∷ chain_names (n - 1) text rows f.two)) e

pub chain_over : (text : List ℕ) (rows : List Row) (c : Column) (n : ℕ) → field_in rows c ≡ None → chain_names n text rows c ≡ []
chain_over text rows c zero e = chain_end text rows c 0 (omega arith)
chain_over text rows c (suc n) e = chain_none text rows c (suc n) (omega arith) e
