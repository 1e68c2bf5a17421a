use Rattle.line.proofs.Pieces.{then_is}
use Rattle.path.proofs.Prints.{printed_more}
use Rattle.path.proofs.print.PathText.write.Goals as goal

pub loop-step-preserved : goal.loop-step-preserved
loop-step-preserved g c =
    let more = printed_more c.in_use-step-items.result.now c.loop-step.step-index c.step-item.result c.loop-step-test.true c.step-item.is in
    then_is g.met.W.Sink.joins _ more c.loop-step.invariant c.write.ensures.took
