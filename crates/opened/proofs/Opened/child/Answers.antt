use Rattle.std.proofs.Common.{◌≡◌, true, length, sym, ap, ◌∙◌, subst}
use Rattle.path.specs.Meaning.{path_of, step_of}
use Rattle.opened.specs.Below.{below}
use Rattle.opened.specs.Opens.{fronts}
use Rattle.opened.proofs.Climbs.{child_fronts, child_below}
use Rattle.opened.proofs.Opened.child.Goals as goal

pub invariant_of-result : goal.invariant_of-result
invariant_of-result c =
    let s = c.args.self in
    record {
      few = s.few;
      full = s.full;
      inside = subst (λ P. below (length P) s.lens s.count ≡ true) (sym c.in_ok-path.ensures) (child_below (path_of s.path) (step_of c.args.step) s.lens s.count s.inside);
    }

pub returns : goal.returns
returns c =
    let s = c.args.self in
    let e = c.in_ok-path.ensures in
    (e, ap (λ P. fronts P s.lens s.count) e ∙ child_fronts (path_of s.path) (step_of c.args.step) s.lens s.count s.inside)
