use Rattle.std.proofs.Common.{◌+◌, ◌-◌, ◌*◌}
use Rattle.evaluate.proofs.evaluation.Evaluation.+truths.Given as goal

abbrev pub decreases-truth_at : goal.decreases-truth_at
decreases-truth_at g l = 3 * (256 - l.row) + 1

abbrev pub decreases-truth_by : goal.decreases-truth_by
decreases-truth_by g l = 3 * (256 - l.row)
