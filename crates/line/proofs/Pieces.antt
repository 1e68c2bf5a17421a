-- Texts that are taken one after another.
use Rattle.std.proofs.Common.{◌≡◌, ℕ, ◌+◌, ◌<◌, List, [], ◌++◌, length, get_or, take, sym, ap, ◌∙◌, subst}
use Rattle.std.specs.List.{flat_map}
use Rattle.std.proofs.lemmas.List.{flat_map_more, take_more}
use Rattle.line.specs.Sinks.{Joins}

module _ {S : Type 0} {took : S → List ℕ → S → Type 0} (j : Joins took) where
  pub then : {s t u : S} {a b : List ℕ} → took s a t → took t b u → took s (a ++ b) u
  then {s} {t} {u} {a} {b} p q = j.join s a t b u p q

  -- the same, where the join of the two is known as the text c
  pub then_is : {s t u : S} {a b : List ℕ} (c : List ℕ) → a ++ b ≡ c → took s a t → took t b u → took s c u
  then_is {s} {t} {u} c e p q = subst (λ x. took s x u) e (then p q)

-- one piece more of a text that is made of pieces
pub part_more : {X : Type 0} (f : X → List ℕ) (xs : List X) (i : ℕ) (d : X) → i < length xs
    → flat_map f (take i xs) ++ f (get_or xs i d) ≡ flat_map f (take (i + 1) xs)
part_more f xs i d h =
    flat_map_more f [] (take i xs) (get_or xs i d) ∙ ap (flat_map f) (sym (take_more xs i d h))
