use Rattle.std.proofs.Common.{take, map}
use Rattle.path.specs.Meaning.{step_of}
use Rattle.path.specs.Printed.{printed}
use Rattle.path.proofs.print.PathText.write.Given as goal

abbrev pub invariant-loop-step : goal.invariant-loop-step
invariant-loop-step g l = g.W.Sink.took l.fn.out (printed (map step_of (take l.step-index l.step-items))) l.out
