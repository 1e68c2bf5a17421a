use Rattle.std.proofs.Common.{◌-◌, ◌++◌, codes, ap, ◌∙◌}
use Rattle.listing.specs.Rows.{tail_text}
use Rattle.line.proofs.Pieces.{then_is}
use Rattle.listing.proofs.found.Laying.put_rest.Goals as goal

pub returns : goal.returns
returns g c =
    let l = c.args.self.now in
    let same = c.saturating_sub.ensures ∙ ap (λ i. i - l.covered) c.len.ensures in
    then_is g.met.W.Sink.joins _ (ap (λ w. codes "rest" ++ tail_text (g.S.Source.cells l.source.now) (codes "-") l.covered w) same) c.text.ensures c.put_tail.ensures
