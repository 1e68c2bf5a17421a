use Rattle.std.proofs.Common.{◌≡◌, ℕ, ◌<◌, ◌≤◌, min, List, map, take, sym, ap, ◌∙◌, ⊎_elim, arith}
use Rattle.std.proofs.lemmas.List.{length-take, take_all, take-map, take-take}
use Rattle.std.proofs.lemmas.Bool.{cases_lt}
use Rattle.path.specs.Meaning.{step_of}
use Rattle.path.proofs.Path.front.Goals as goal

front_of : {X : Type 0} (n m : ℕ) (xs : List X) → take (min n m) xs ≡ take n (take m xs)
front_of n m xs =
    ⊎_elim
    (λ (h : m < n). let e : min n m ≡ m = omega arith in ap (λ k. take k xs) e ∙ sym (take_all n (take m xs) (omega (arith, length-take m xs))))
    (λ (h : n ≤ m). let e : min n m ≡ n = omega arith in ap (λ k. take k xs) e ∙ sym (take-take n m xs h))
    (cases_lt m n)

pub returns : goal.returns
returns c =
    let self = c.args.self in
    ap (λ k. map step_of (take k self.steps)) c.min-len.ensures
    ∙ ap (map step_of) (front_of c.args.n self.len self.steps)
    ∙ sym (take-map step_of c.args.n (take self.len self.steps))
