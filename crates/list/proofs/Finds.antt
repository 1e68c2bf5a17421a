-- What finds the last entry in use that passes, and what was found.
use Rattle.std.proofs.Common.{◌≡◌, ℕ, zero, suc, ◌<◌, Bool, true, false, cond, List, [], ◌∷◌, drop, Some, None, Option, MatchOption, sym, refl, ap, ◌∙◌, arith}
use Rattle.std.specs.List.{slice_get}
use Rattle.list.specs.Contents.{last_of, or_else, Found, NonePasses}

module _ {X : Type 0} (p : X → Bool) where
  -- an entry ahead of others, of which none passes
  ahead : (x : X) (xs : List X) → last_of p xs ≡ None → last_of p (x ∷ xs) ≡ cond (p x) (Some x) None
  ahead x xs e = ap (λ o. or_else o (cond (p x) (Some x) None)) e

  -- the entries from i on, of which x is the first
  from_place : (xs : List X) (i : ℕ) (x : X) → slice_get xs i ≡ Some x → drop i xs ≡ x ∷ drop (suc i) xs
  from_place [] i x e = absurd (let z : ◌≡◌ {A = ℕ} 0 1 = cc in omega arith)
  from_place (y ∷ xs) zero x e = let s : y ≡ x = cc in ap (λ z. z ∷ xs) s
  from_place (y ∷ xs) (suc i) x e = from_place xs i x e

  from_here : (xs : List X) (i : ℕ) (x : X) (b : Bool) → p x ≡ b → slice_get xs i ≡ Some x → last_of p (drop (suc i) xs) ≡ None
      → last_of p (drop i xs) ≡ cond b (Some x) None
  from_here xs i x b t e none =
      ap (last_of p) (from_place xs i x e) ∙ ahead x (drop (suc i) xs) none ∙ ap (λ (c : Bool). cond c (Some x) None) t

  -- what is found from i on is what is found
  found_behind : (xs : List X) (i : ℕ) (x : X) → last_of p (drop i xs) ≡ Some x → last_of p xs ≡ Some x
  found_behind xs zero x e = e
  found_behind [] (suc i) x e = e
  found_behind (y ∷ xs) (suc i) x e = ap (λ o. or_else o (cond (p y) (Some y) None)) (found_behind xs i x e)

  -- the entry at i passes, and none behind it
  pub last_here : (xs : List X) (i : ℕ) (x : X) → slice_get xs i ≡ Some x → p x ≡ true → last_of p (drop (suc i) xs) ≡ None → last_of p xs ≡ Some x
  last_here xs i x e t none = found_behind xs i x (from_here xs i x true t e none)

  none_ahead : (x : X) (b : Bool) → p x ≡ b → cond b (Some x) None ≡ None → p x ≡ false
  none_ahead x true t e = absurd (let z : ◌≡◌ {A = ℕ} 0 1 = cc in omega arith)
  none_ahead x false t e = t

  none_here : (o : Option X) (x : X) → or_else o (cond (p x) (Some x) None) ≡ None → (o ≡ None) × (p x ≡ false)
  none_here None x e = (refl, none_ahead x (p x) refl e)
  none_here (Some y) x e = absurd (let z : ◌≡◌ {A = ℕ} 0 1 = cc in omega arith)

  -- where nothing was found, no entry passes
  pub none_passes : (xs : List X) → last_of p xs ≡ None → NonePasses p xs
  none_passes [] e j y h = absurd (let z : ◌≡◌ {A = ℕ} 0 1 = cc in omega arith)
  none_passes (x ∷ xs) e zero y h = let s : x ≡ y = cc in ap p (sym s) ∙ (none_here (last_of p xs) x e).1
  none_passes (x ∷ xs) e (suc j) y h = none_passes xs (none_here (last_of p xs) x e).0 j y h

  some_ahead : (x y : X) (b : Bool) → p x ≡ b → cond b (Some x) None ≡ Some y → (x ≡ y) × (p x ≡ true)
  some_ahead x y true t e = (cc, t)
  some_ahead x y false t e = absurd (let z : ◌≡◌ {A = ℕ} 0 1 = cc in omega arith)

  -- where the entry that was found stands, by what is found behind the first
  found_in : (y : X) (ys : List X) (x : X) (o : Option X) → last_of p ys ≡ o → or_else o (cond (p y) (Some y) None) ≡ Some x
      → ((z : X) → last_of p ys ≡ Some z → Found p ys z) → Found p (y ∷ ys) x
  found_in y ys x (Some z) was e behind =
      let s : z ≡ x = cc in
      let f = behind x (was ∙ ap Some s) in
      record {
        place = suc f.place;
        is = f.is;
        passing = f.passing;
        last = λ j. elim j as (λ j. suc f.place < j → (w : X) → slice_get (y ∷ ys) j ≡ Some w → p w ≡ false) [
          | zero ↦ λ l. absurd (omega (arith, l))
          | suc k ↦ λ l w g. f.last k (omega (arith, l)) w g
        ];
      }
  found_in y ys x None was e behind =
      let h = some_ahead y x (p y) refl e in
      record {
        place = 0;
        is = ap Some h.0;
        passing = ap p (sym h.0) ∙ h.1;
        last = λ j. elim j as (λ j. 0 < j → (w : X) → slice_get (y ∷ ys) j ≡ Some w → p w ≡ false) [
          | zero ↦ λ l. absurd (omega (arith, l))
          | suc k ↦ λ l w g. none_passes ys was k w g
        ];
      }

  pub found_place : (xs : List X) (x : X) → last_of p xs ≡ Some x → Found p xs x
  found_place [] x e = absurd (let z : ◌≡◌ {A = ℕ} 0 1 = cc in omega arith)
  found_place (y ∷ ys) x e = found_in y ys x (last_of p ys) refl e (found_place ys)

  -- both in one
  pub searched : (xs : List X) (r : Option X) → r ≡ last_of p xs → MatchOption r (NonePasses p xs) (Found p xs)
  searched xs None e = none_passes xs (sym e)
  searched xs (Some x) e = found_place xs x (sym e)
