use Rattle.std.proofs.Common.{◌-◌, ◌++◌, take, drop, ap, ◌∙◌, arith}
use Rattle.std.specs.List.{flat_map}
use Rattle.listing.specs.Parts.{cell_text, answer_text}
use Rattle.line.proofs.Pieces.{then_is}
use Rattle.listing.proofs.Shares.{cell_more}
use Rattle.listing.proofs.part.Part.put_bytes.Goals as goal

pub loop-k-preserved : goal.loop-k-preserved
loop-k-preserved g c =
    let cs = g.S.Source.cells c.args.self.now.source.now in
    let p = c.args.self.now.place in
    let k = c.loop-k.k in
    let before = flat_map cell_text (take (k - p) (drop p cs)) in
    then_is g.met.W.Sink.joins {a = before} _
    (ap (λ r. before ++ answer_text r) c.read.ensures.answer ∙ cell_more cs p k c.loop-k.auto.k (omega arith))
    c.loop-k.invariant c.put_cell.ensures
