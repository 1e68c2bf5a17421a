use Rattle.std.proofs.Common.{◌≡◌, suc, ◌+◌, ◌<◌, length, set, refl, ap, ◌∙◌, arith, length-set}
use Rattle.path.specs.Meaning.{path_of}
use Rattle.opened.specs.Below.{below}
use Rattle.opened.specs.Opens.{fronts}
use Rattle.opened.proofs.Climbs.{fronts_open, open_below}
use Rattle.opened.proofs.Opened.opened.Goals as goal

pub invariant_of-result : goal.invariant_of-result
invariant_of-result c =
    let s = c.args.self in
    let P = path_of s.path in
    let n = s.count in
    let short : n < length s.lens = omega (arith, s.full) in
    let more : n + 1 ≡ suc n = omega arith in record {
      few = omega arith;
      full = length-set s.lens n c.len.result ∙ s.full;
      inside =
          ap (λ k. below (length P) (set s.lens n k) (n + 1)) c.len.ensures.value ∙ ap (λ m. below (length P) (set s.lens n (length P)) m) more
          ∙ open_below (length P) s.lens n short s.inside;
    }

pub returns : goal.returns
returns c =
    let s = c.args.self in
    let P = path_of s.path in
    let n = s.count in
    let short : n < length s.lens = omega (arith, s.full) in
    let more : n + 1 ≡ suc n = omega arith in (
      refl,
      ap (λ k. fronts P (set s.lens n k) (n + 1)) c.len.ensures.value ∙ ap (λ m. fronts P (set s.lens n (length P)) m) more
          ∙ fronts_open P s.lens n short,
    )
