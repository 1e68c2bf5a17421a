-- The tests of equal names, steps and paths are true exactly where they are equal.
use Rattle.std.specs.Prelude.{◌≡◌, Bool, true, false, cond, List, [], ◌∷◌, Decides, refl}
use Rattle.std.specs.Cmp.{IsPartialEquivalence, both_ways}
use Rattle.std.specs.Str.{bytes_eq}
use Rattle.std.proofs.Common.{sym, ap, ◌∙◌, eqb-true}
use Rattle.std.proofs.lemmas.Bool.{eq-eqb, false≢true}
use Rattle.std.proofs.lemmas.Slice.Eq.{bytes_eq-Decides}
use Rattle.path.specs.Meaning.{Downward, field, element, same_step, same_path}

-- a test that is true exactly at equals is symmetric and transitive
per : {X : Type 0} (E : X → X → Bool) → ((x y : X) → Decides (E x y) (x ≡ y)) → IsPartialEquivalence E
per E d =
    record {
      symm = λ x y. both_ways (E x y) (E y x) (λ t. (d y x).1 (sym ((d x y).0 t))) (λ t. (d x y).1 (sym ((d y x).0 t)));
      trans = λ x y z p q. (d x z).1 ((d x y).0 p ∙ (d y z).0 q);
    }

step_true : (x y : Downward) → same_step x y ≡ true → x ≡ y
step_true (field m) (field n) e = ap field ((bytes_eq-Decides m n).0 e)
step_true (field m) (element j) e = absurd (false≢true e)
step_true (element i) (field n) e = absurd (false≢true e)
step_true (element i) (element j) e = ap element (eqb-true i j e)

step_refl : (x : Downward) → same_step x x ≡ true
step_refl (field m) = (bytes_eq-Decides m m).1 refl
step_refl (element i) = eq-eqb i i refl

pub step_decides : (x y : Downward) → Decides (same_step x y) (x ≡ y)
step_decides x y = (step_true x y, λ e. ap (same_step x) (sym e) ∙ step_refl x)

chosen : (a b : Bool) → cond a b false ≡ true → (a ≡ true) × (b ≡ true)
chosen true b e = (refl, e)
chosen false b e = absurd (false≢true e)

path_true : (p q : List Downward) → same_path p q ≡ true → p ≡ q
path_true [] [] e = refl
path_true [] (y ∷ ys) e = absurd (false≢true e)
path_true (x ∷ xs) [] e = absurd (false≢true e)
path_true (x ∷ xs) (y ∷ ys) e =
    let c = chosen (same_step x y) (same_path xs ys) e in
    ap (λ z. z ∷ xs) (step_true x y c.0) ∙ ap (λ zs. y ∷ zs) (path_true xs ys c.1)

path_refl : (p : List Downward) → same_path p p ≡ true
path_refl [] = refl
path_refl (x ∷ xs) = ap (λ b. cond b (same_path xs xs) false) (step_refl x) ∙ path_refl xs

pub path_decides : (p q : List Downward) → Decides (same_path p q) (p ≡ q)
path_decides p q = (path_true p q, λ e. ap (same_path p) (sym e) ∙ path_refl p)

pub bytes_per : IsPartialEquivalence bytes_eq
bytes_per = per bytes_eq bytes_eq-Decides

pub steps_per : IsPartialEquivalence same_step
steps_per = per same_step step_decides

pub paths_per : IsPartialEquivalence same_path
paths_per = per same_path path_decides
