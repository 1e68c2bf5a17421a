-- The open records by number.
use Rattle.std.proofs.Common.{◌≡◌, ℕ, zero, suc, ◌-◌, ◌<◌, ◌≤◌, true, ◌&&◌, leb, List, [], ◌∷◌}
use Rattle.std.proofs.Common.{◌++◌, length, get_or, take, set, Some, None, refl, ap, ◌∙◌, ap₂}
use Rattle.std.proofs.Common.{arith, length-append, leb-true}
use Rattle.std.proofs.lemmas.Bool.{and_parts, le-leb}
use Rattle.std.proofs.lemmas.List.{take-append-le, take_all, get_or-set_same, get_or-set_other}
use Rattle.opened.specs.Below.{below}
use Rattle.path.specs.Meaning.{Downward}
use Rattle.std.specs.List.{slice_get}
use Rattle.opened.specs.Opens.{fronts}

module _ (P : List Downward) (lens : List ℕ) where
  pub climbed_past : (n c : ℕ) → n ≤ c → slice_get (fronts P lens n) c ≡ None
  climbed_past zero c h = refl
  climbed_past (suc n) zero h = absurd (omega arith)
  climbed_past (suc n) (suc c) h = climbed_past n c (omega arith)

  pub climbed_at : (n c k : ℕ) → c < n → k ≡ n - 1 - c
      → slice_get (fronts P lens n) c ≡ Some (take (get_or lens k 0) P)
  climbed_at zero c k h e = absurd (omega arith)
  climbed_at (suc n) zero k h e = let s : n ≡ k = omega arith in
      ap (λ i. Some (take (get_or lens i 0) P)) s
  climbed_at (suc n) (suc c) k h e = climbed_at n c k (omega arith) (omega arith)

abbrev Below : ℕ → List ℕ → ℕ → Type 0
Below len lens zero = Unit
Below len lens (suc n) = (get_or lens n 0 ≤ len) × Below len lens n

lower : (len : ℕ) (lens : List ℕ) (n : ℕ) → below len lens n ≡ true → Below len lens n
lower len lens zero h = tt
lower len lens (suc n) h =
    let p = and_parts (leb (get_or lens n 0) len) (below len lens n) h in
    (leb-true (get_or lens n 0) len p.0, lower len lens n p.1)

raise : (len : ℕ) (lens : List ℕ) (n : ℕ) → Below len lens n → below len lens n ≡ true
raise len lens zero h = refl
raise len lens (suc n) h = ap₂ ◌&&◌ (le-leb (get_or lens n 0) len h.0) (raise len lens n h.1)

pub length_fronts : (P : List Downward) (lens : List ℕ) (n : ℕ) → length (fronts P lens n) ≡ n
length_fronts P lens zero = refl
length_fronts P lens (suc n) = ap suc (length_fronts P lens n)

-- the same fronts of a longer path
front_longer : (P Q : List Downward) (lens : List ℕ) (n : ℕ) → Below (length P) lens n
    → fronts (P ++ Q) lens n ≡ fronts P lens n
front_longer P Q lens zero h = refl
front_longer P Q lens (suc n) h =
    ap (λ X. X ∷ fronts (P ++ Q) lens n) (take-append-le (get_or lens n 0) P Q h.0)
    ∙ ap (λ Xs. take (get_or lens n 0) P ∷ Xs) (front_longer P Q lens n h.1)

below_longer : (a b : ℕ) (lens : List ℕ) (n : ℕ) → a ≤ b → Below a lens n → Below b lens n
below_longer a b lens zero l h = tt
below_longer a b lens (suc n) l h = (omega (arith, h.0), below_longer a b lens n l h.1)

-- the same fronts where a later length is written
fronts_set : (P : List Downward) (lens : List ℕ) (n c x : ℕ) → n ≤ c
    → fronts P (set lens c x) n ≡ fronts P lens n
fronts_set P lens zero c x h = refl
fronts_set P lens (suc n) c x h =
    ap (λ k. take k P ∷ fronts P (set lens c x) n)
    (get_or-set_other lens c n x 0 (λ (e : n ≡ c). omega arith))
    ∙ ap (λ Xs. take (get_or lens n 0) P ∷ Xs) (fronts_set P lens n c x (omega arith))

below_set : (len : ℕ) (lens : List ℕ) (n c x : ℕ) → n ≤ c → Below len lens n
    → Below len (set lens c x) n
below_set len lens zero c x l h = tt
below_set len lens (suc n) c x l h = (
  omega (arith, h.0, get_or-set_other lens c n x 0 (λ (e : n ≡ c). omega arith)),
  below_set len
      lens n c x (omega arith) h.1,
)

-- the record here, in front of the others
pub fronts_open : (P : List Downward) (lens : List ℕ) (n : ℕ) → n < length lens
    → fronts P (set lens n (length P)) (suc n) ≡ P ∷ fronts P lens n
fronts_open P lens n h =
    ap (λ k. take k P ∷ fronts P (set lens n (length P)) n) (get_or-set_same lens n (length P) 0 h)
    ∙ ap (λ X. X ∷ fronts P (set lens n (length P)) n) (take_all (length P) P (omega arith))
    ∙ ap (λ Xs. P ∷ Xs) (fronts_set P lens n n (length P) (omega arith))

below_opened : (len : ℕ) (lens : List ℕ) (n : ℕ) → n < length lens → Below len lens n
    → Below len (set lens n len) (suc n)
below_opened len lens n h b =
    (omega (arith, get_or-set_same lens n len 0 h), below_set len lens n n len (omega arith) b)

-- one step further down
module _ (P : List Downward) (d : Downward) (lens : List ℕ) (n : ℕ)
    (h : below (length P) lens n ≡ true) where
  pub child_fronts : fronts (P ++ (d ∷ [])) lens n ≡ fronts P lens n
  child_fronts = front_longer P (d ∷ []) lens n (lower (length P) lens n h)

  pub child_below : below (length (P ++ (d ∷ []))) lens n ≡ true
  child_below =
      raise _ lens n
      (below_longer (length P) _ lens n (omega (arith, length-append P (d ∷ [])))
      (lower (length P) lens n h))

pub open_below : (len : ℕ) (lens : List ℕ) (n : ℕ) → n < length lens → below len lens n ≡ true
    → below len (set lens n len) (suc n) ≡ true
open_below len lens n h b = raise len (set lens n len) (suc n)
    (below_opened len lens n h (lower len lens n b))
