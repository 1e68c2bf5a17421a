use Rattle.std.proofs.Common.{◌+◌, ◌-◌, ◌*◌}
use Rattle.evaluate.proofs.far.+far_truths.Given as goal

abbrev pub decreases-truth_at : goal.decreases-truth_at
decreases-truth_at l = 3 * (256 - l.row) + 1

abbrev pub decreases-truth_by : goal.decreases-truth_by
decreases-truth_by l = 3 * (256 - l.row)
