use Rattle.std.proofs.Common.{◌≡◌, ◌-◌, ◌<◌, suc, length, take, drop, get_or, true, None, sym, ap, ◌∙◌, subst, arith}
use Rattle.std.proofs.lemmas.List.{get_or_default, length-take}
use Rattle.list.specs.Contents.{last_of}
use Rattle.list.proofs.Finds.{last_here}
use Rattle.list.proofs.Fronts.{nth_front_read}
use Rattle.list.proofs.places.find_in.Goals as goal

pub returns-then-passes-clause-value : goal.returns-then-passes-clause-value
returns-then-passes-clause-value g c =
    let p = g.P.Test.holds c.args.test.now in
    let E = c.in_use-i.new.entries in
    let xs = take c.args.count c.args.entries.now in
    let i = c.loop-i.i - 1 in
    let x = c.index-entries-i-then-passes.result in
    let next : c.loop-i.i ≡ suc i = omega arith in
    let at = nth_front_read c.args.count c.args.entries.now i x (omega (arith, c.loop-i.invariant.inside)) (c.index-entries-i-then-passes.is ∙ ap (λ l. get_or l i x) c.in_use-i.ensures.same) in
    let within : i < length E = omega (arith, c.loop-i.invariant.inside, length-take c.args.count c.args.entries.now, ap length c.in_use-i.ensures.same) in
    let passes : p x ≡ true = ap p (c.index-entries-i-then-passes.is ∙ get_or_default E i x c.index-entries-i.result within) ∙ sym c.if-passes.ensures in
    sym (last_here p xs i x (sym at) passes (subst (λ k. last_of p (drop k xs) ≡ None) next c.loop-i.invariant.none))
