use Rattle.std.proofs.Common.{length}
use Rattle.path.specs.Meaning.{path_of}
use Rattle.path.proofs.Reached.{Reached}
use Rattle.path.proofs.Path.parse.Given as goal

abbrev pub invariant-loop-rest : goal.invariant-loop-rest
invariant-loop-rest l = Reached l.fn.text l.rest (path_of l.path)

abbrev pub decreases-loop-rest : goal.decreases-loop-rest
decreases-loop-rest l = length l.rest
