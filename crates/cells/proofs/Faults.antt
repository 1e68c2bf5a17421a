-- The first pair of a text that is cut or bad.
use Rattle.std.proofs.Common.{◌≡◌, ℕ, zero, suc, ◌+◌, ◌*◌, ◌<◌, List, [], ◌∷◌, get_or, Some, None}
use Rattle.std.proofs.Common.{Option, sym, refl, ap, ◌∙◌, inl, inr, arith}
use Rattle.cells.specs.declared.hex.Pair.{Pair}
use Rattle.cells.specs.Hex.{pair_of}
use Rattle.cells.specs.Captured.{or_bad, bad_from, PairFault, FirstFault}

-- pair i + 1 of a text is pair i of what follows the first
same_pair : (x y : ℕ) (t : List ℕ) (i : ℕ) →
    pair_of (get_or (x ∷ (y ∷ t)) (2 * suc i) 0) (get_or (x ∷ (y ∷ t)) (2 * suc i + 1) 0) ≡ pair_of (get_or t (2 * i) 0) (get_or t (2 * i + 1) 0)
same_pair x y t i =
    let s = x ∷ (y ∷ t) in
    let p : 2 * suc i ≡ suc (suc (2 * i)) = omega arith in
    let q : 2 * suc i + 1 ≡ suc (suc (2 * i + 1)) = omega arith in
    ap (λ m. pair_of (get_or s m 0) (get_or s (2 * suc i + 1) 0)) p ∙ ap (λ m. pair_of (get_or t (2 * i) 0) (get_or s m 0)) q

later : (x y : ℕ) (t : List ℕ) (i : ℕ) → PairFault t i → PairFault (x ∷ (y ∷ t)) (suc i)
later x y t i (h, inl e) = (omega arith, inl (omega arith))
later x y t i (h, inr e) = (omega arith, inr (same_pair x y t i ∙ e))

earlier : (x y : ℕ) (t : List ℕ) (i : ℕ) → PairFault (x ∷ (y ∷ t)) (suc i) → PairFault t i
earlier x y t i (h, inl e) = (omega arith, inl (omega arith))
earlier x y t i (h, inr e) = (omega arith, inr (sym (same_pair x y t i) ∙ e))

-- what `bad_from` says of a text whose first pair has the number k
Says : ℕ → List ℕ → Option ℕ → Type 0
Says k t None = (i : ℕ) → PairFault t i → ⊥
Says k t (Some p) = (i : ℕ) × ((p ≡ 2 * (k + i)) × (PairFault t i × ((j : ℕ) → j < i → PairFault t j → ⊥)))

good_none : (x y : ℕ) (t : List ℕ) → (pair_of x y ≡ None → ⊥) → ((i : ℕ) → PairFault t i → ⊥) → (i : ℕ) → PairFault (x ∷ (y ∷ t)) i → ⊥
good_none x y t good rest zero (h, inl e) = omega arith
good_none x y t good rest zero (h, inr e) = good e
good_none x y t good rest (suc i) f = rest i (earlier x y t i f)

good_below : (x y : ℕ) (t : List ℕ) (n : ℕ) → (pair_of x y ≡ None → ⊥) → ((j : ℕ) → j < n → PairFault t j → ⊥) → (j : ℕ) → j < suc n → PairFault (x ∷ (y ∷ t)) j → ⊥
good_below x y t n good rest zero l (h, inl e) = omega arith
good_below x y t n good rest zero l (h, inr e) = good e
good_below x y t n good rest (suc j) l f = rest j (omega arith) (earlier x y t j f)

good_step : (k x y : ℕ) (t : List ℕ) (o : Option ℕ) → (pair_of x y ≡ None → ⊥) → Says (suc k) t o → Says k (x ∷ (y ∷ t)) o
unfolding Says
good_step k x y t None good s = good_none x y t good s
good_step k x y t (Some p) good (i, (e, (f, first))) = (suc i, (omega arith, (later x y t i f, good_below x y t i good first)))

step : (k x y : ℕ) (t : List ℕ) (o : Option ℕ) → Says (suc k) t o → (p : Option Pair) → pair_of x y ≡ p → Says k (x ∷ (y ∷ t)) (or_bad k p o)
unfolding Says
step k x y t o s (Some p) e = good_step k x y t o (λ z. let w : ◌≡◌ {A = ℕ} 0 1 = cc in omega arith) s
step k x y t o s None e = (0, (omega arith, ((omega arith, inr e), λ j l. absurd (omega arith))))

says : (k : ℕ) (t : List ℕ) → Says k t (bad_from k t)
unfolding Says
says k [] = λ i f. omega (arith, f.0)
says k (x ∷ []) = (0, (omega arith, ((omega arith, inl (omega arith)), λ j l. absurd (omega arith))))
says k (x ∷ (y ∷ t)) = step k x y t (bad_from (suc k) t) (says (suc k) t) (pair_of x y) refl

none_from : (t : List ℕ) (o : Option ℕ) → Says 0 t o → o ≡ None → (i : ℕ) → PairFault t i → ⊥
unfolding Says
none_from t None s e = s
none_from t (Some p) s e = absurd (let w : ◌≡◌ {A = ℕ} 0 1 = cc in omega arith)

some_from : (t : List ℕ) (o : Option ℕ) (p : ℕ) → Says 0 t o → o ≡ Some p → FirstFault t p
unfolding Says
some_from t None p s e = absurd (let w : ◌≡◌ {A = ℕ} 0 1 = cc in omega arith)
some_from t (Some q) p (i, (e, (f, first))) z = record { pair = i; place = let w : p ≡ q = cc in omega arith; fault = f; first = first }

pub no_fault : (t : List ℕ) → bad_from 0 t ≡ None → (i : ℕ) → PairFault t i → ⊥
no_fault t e = none_from t (bad_from 0 t) (says 0 t) e

pub first_fault : (t : List ℕ) (p : ℕ) → bad_from 0 t ≡ Some p → FirstFault t p
first_fault t p e = some_from t (bad_from 0 t) p (says 0 t) e
