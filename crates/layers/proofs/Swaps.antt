-- How the cells of a swap come from those below.
use Rattle.std.proofs.Common.{◌≡◌, ℕ, zero, suc, ◌+◌, ◌%◌, ◌<◌, ◌≤◌, List, [], ◌∷◌, map, length, set, sym, refl, ap, ◌∙◌, ⊎_elim, arith}
use Rattle.std.specs.List.{slice_get}
use Rattle.std.specs.Option.{option_map}
use Rattle.std.proofs.lemmas.List.{map-set}
use Rattle.std.proofs.lemmas.Option.{slice_get-map}
use Rattle.std.proofs.lemmas.Bool.{cases_lt}
use Rattle.cells.specs.declared.cell.Cell.{Cell}
use Rattle.cells.specs.declared.cell.Cell.TheVariants.{Byte}
use Rattle.layers.specs.Layers.{aged, swap_pairs, swapped, Partner, Stands}

-- two places further on, two cells fewer
inner : (n k at : ℕ) → Partner (suc (suc n)) (suc (suc k)) (suc (suc at)) → Partner n k at
inner n k at p =
    record {
      odd = λ h. omega (arith, p.odd (omega arith));
      even = λ h l. omega (arith, p.even (omega arith) (omega arith));
      last = λ h l. omega (arith, p.last (omega arith) (omega arith));
    }

far : (n k at : ℕ) → Partner n (suc (suc k)) at → 2 ≤ at
far n k at p =
    ⊎_elim
    (λ (h : k % 2 < 1).
    ⊎_elim
    (λ (m : suc (suc k) + 1 < n). omega (arith, p.even (omega arith) m))
    (λ (m : n ≤ suc (suc k) + 1). omega (arith, p.last (omega arith) m))
    (cases_lt (suc (suc k) + 1) n))
    (λ (h : 1 ≤ k % 2). omega (arith, p.odd (omega arith)))
    (cases_lt (k % 2) 1)

pairs_nth : (cs : List Cell) (k at : ℕ) → k < length cs → Partner (length cs) k at → slice_get (swap_pairs cs) k ≡ slice_get cs at
pairs_nth [] k at l p = refl
pairs_nth (x ∷ []) zero at l p = ap (slice_get (x ∷ [])) (sym (p.last refl (omega arith)))
pairs_nth (x ∷ []) (suc k) at l p = absurd (omega arith)
pairs_nth (x ∷ (y ∷ cs)) zero at l p = ap (slice_get (x ∷ (y ∷ cs))) (sym (p.even refl (omega arith)))
pairs_nth (x ∷ (y ∷ cs)) (suc zero) at l p =
    let e : 0 ≡ at = omega (arith, p.odd refl) in ap (slice_get (x ∷ (y ∷ cs))) e
pairs_nth (x ∷ (y ∷ cs)) (suc (suc k)) zero l p = absurd (omega (arith, far _ k zero p))
pairs_nth (x ∷ (y ∷ cs)) (suc (suc k)) (suc zero) l p = absurd (omega (arith, far _ k (suc zero) p))
pairs_nth (x ∷ (y ∷ cs)) (suc (suc k)) (suc (suc at)) l p = pairs_nth cs k at (omega arith) (inner (length cs) k at p)

pairs_set :
    (cs : List Cell) (k at : ℕ) (c : Cell) → k < length cs → Partner (length cs) k at →
    swap_pairs (set cs at c) ≡ set (swap_pairs cs) k c
pairs_set [] k at c l p = refl
pairs_set (x ∷ []) zero at c l p = ap (λ i. swap_pairs (set (x ∷ []) i c)) (p.last refl (omega arith))
pairs_set (x ∷ []) (suc k) at c l p = absurd (omega arith)
pairs_set (x ∷ (y ∷ cs)) zero at c l p = ap (λ i. swap_pairs (set (x ∷ (y ∷ cs)) i c)) (p.even refl (omega arith))
pairs_set (x ∷ (y ∷ cs)) (suc zero) at c l p =
    let e : at ≡ 0 = omega (arith, p.odd refl) in ap (λ i. swap_pairs (set (x ∷ (y ∷ cs)) i c)) e
pairs_set (x ∷ (y ∷ cs)) (suc (suc k)) zero c l p = absurd (omega (arith, far _ k zero p))
pairs_set (x ∷ (y ∷ cs)) (suc (suc k)) (suc zero) c l p = absurd (omega (arith, far _ k (suc zero) p))
pairs_set (x ∷ (y ∷ cs)) (suc (suc k)) (suc (suc at)) c l p =
    ap (λ ds. y ∷ (x ∷ ds)) (pairs_set cs k at c (omega arith) (inner (length cs) k at p))

-- the place below of cell k of a swap
module _ (cs : List Cell) (k at : ℕ) (h : k < length cs) (p : Partner (length cs) k at) where
  swap_nth : slice_get (swapped cs) k ≡ option_map aged (slice_get cs at)
  unfolding swapped
  swap_nth = slice_get-map aged (swap_pairs cs) k ∙ ap (option_map aged) (pairs_nth cs k at h p)

  swap_set : (b : ℕ) → swapped (set cs at (Byte b)) ≡ set (swapped cs) k (Byte b)
  unfolding swapped
  swap_set b = ap (map aged) (pairs_set cs k at (Byte b) h p) ∙ map-set aged (swap_pairs cs) k (Byte b)

  pub swap_stands : Stands swapped (λ ds. []) cs k at
  swap_stands = record { read = swap_nth; wrote = swap_set; spared = λ b. refl }
