-- The front of a list, place by place.
use Rattle.std.proofs.Common.{◌≡◌, ℕ, zero, suc, ◌+◌, ◌<◌, ◌≤◌, List, [], ◌∷◌, ◌++◌, length, get_or, take, set, Some, None, Option, sym, refl, ap, ◌∙◌, add-one, arith, length-take}
use Rattle.std.specs.List.{slice_get}
use Rattle.std.specs.Option.{MatchOption}
use Rattle.std.proofs.lemmas.List.{length-take-le}
use Rattle.std.proofs.lemmas.Option.{slice_get_past, slice_get_read}

module _ {X : Type 0} where
  pub nth_take : (n : ℕ) (xs : List X) (i : ℕ) → i < n → slice_get (take n xs) i ≡ slice_get xs i
  nth_take zero xs i h = absurd (omega arith)
  nth_take (suc n) [] i h = refl
  nth_take (suc n) (x ∷ xs) zero h = refl
  nth_take (suc n) (x ∷ xs) (suc i) h = nth_take n xs i (omega arith)

  pub nth_take_past : (n : ℕ) (xs : List X) (i : ℕ) → n ≤ i → slice_get (take n xs) i ≡ None
  nth_take_past n xs i h = slice_get_past (take n xs) i (simp length-take (omega arith))

  pub take_set_any : (n : ℕ) (xs : List X) (i : ℕ) (y : X) → take n (set xs i y) ≡ set (take n xs) i y
  take_set_any zero xs i y = refl
  take_set_any (suc n) [] i y = refl
  take_set_any (suc n) (x ∷ xs) zero y = refl
  take_set_any (suc n) (x ∷ xs) (suc i) y = ap (λ l. x ∷ l) (take_set_any n xs i y)

  pub nth_front : (n : ℕ) (xs : List X) (i : ℕ) → i < length (take n xs) → slice_get xs i ≡ slice_get (take n xs) i
  nth_front n xs i h = sym (nth_take n xs i (omega (arith, length-take n xs)))

  pub take_length_take : (k : ℕ) (xs : List X) → take (length (take k xs)) xs ≡ take k xs
  take_length_take zero xs = refl
  take_length_take (suc k) [] = refl
  take_length_take (suc k) (x ∷ xs) = ap (λ l. x ∷ l) (take_length_take k xs)

  -- an entry that was read at a place in use
  pub nth_front_read : (n : ℕ) (xs : List X) (i : ℕ) (x : X) → i < length (take n xs) → x ≡ get_or xs i x → Some x ≡ slice_get (take n xs) i
  nth_front_read n xs i x h e =
      let k : i < length xs = omega (arith, length-take n xs) in
      sym (slice_get_read xs (length xs) i x refl k e) ∙ nth_front n xs i h

  -- the entry behind the first n, taken to them
  one_more : (n : ℕ) (xs : List X) → n < length xs → (x : X) × (slice_get xs n ≡ Some x) × (take (suc n) xs ≡ take n xs ++ x ∷ [])
  one_more n [] h = absurd (omega arith)
  one_more zero (y ∷ xs) h = (y, refl, refl)
  one_more (suc n) (y ∷ xs) h = let r = one_more n xs (omega arith) in (r.0, r.1, ap (λ l. y ∷ l) r.2)

  pub restored : (P : Type 0) (n : ℕ) (xs ys : List X) (r : Option X) → n < length xs → r ≡ slice_get ys n → ys ≡ take (n + 1) xs
      → MatchOption r P (λ x. (slice_get xs (length (take n xs)) ≡ Some x) × (ys ≡ take n xs ++ x ∷ []))
  restored P n xs ys r h e f =
      let o = one_more n xs h in
      let k : length (take n xs) ≡ n = length-take-le n xs (omega arith) in
      let g : ys ≡ take (suc n) xs = rw add-one at f in
      let is : r ≡ Some o.0 = e ∙ ap (λ l. slice_get l n) g ∙ nth_take (suc n) xs n (omega arith) ∙ o.1 in
      rw is (ap (slice_get xs) k ∙ o.1, g ∙ o.2)
