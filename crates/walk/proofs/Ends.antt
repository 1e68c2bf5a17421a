-- The last entry of a list, which is the innermost open row.
use Rattle.std.proofs.Common.{◌≡◌, ℕ, zero, suc, ◌-◌, List, [], ◌∷◌, ◌++◌, map, length, take}
use Rattle.std.proofs.Common.{reverse, Some, Option, sym, refl, ap, ◌∙◌, arith}
use Rattle.std.specs.List.{slice_get}
use Rattle.std.specs.Option.{MatchOption}
use Rattle.std.proofs.lemmas.List.{map_push, reverse-append}

last : {X : Type 0} (n : ℕ) (xs : List X) → length xs ≡ suc n
    → (x : X) × (slice_get xs n ≡ Some x) × (xs ≡ take n xs ++ x ∷ [])
last n [] e = absurd (omega arith)
last zero (x ∷ []) e = (x, refl, refl)
last zero (x ∷ (y ∷ xs)) e = absurd (omega arith)
last (suc n) (x ∷ xs) e = let (y, a, b) = last n xs (omega arith) in (y, a, ap (λ r. x ∷ r) b)

pub popped : {X Y : Type 0} (f : X → Y) (xs ys : List X) (r : Option X)
    → r ≡ slice_get xs (length xs - 1) → ys ≡ take (length xs - 1) xs
    → MatchOption r ((reverse (map f xs) ≡ []) × (reverse (map f ys) ≡ []))
    (λ x. reverse (map f xs) ≡ f x ∷ reverse (map f ys))
popped f [] ys r e g = rw e (refl, ap (λ l. reverse (map f l)) g)
popped f (x ∷ xs) ys r e g =
    let n : suc (length xs) - 1 ≡ length xs = omega arith in
    let (y, a, b) = last (length xs) (x ∷ xs) refl in
    let is : r ≡ Some y = e ∙ ap (slice_get (x ∷ xs)) n ∙ a in
    let left : ys ≡ take (length xs) (x ∷ xs) = g ∙ ap (λ k. take k (x ∷ xs)) n in
    rw is
    (ap (λ l. reverse (map f l)) (b ∙ ap (λ l. l ++ y ∷ []) (sym left))
    ∙ ap reverse (map_push f ys y) ∙ reverse-append (map f ys) (f y ∷ []))
