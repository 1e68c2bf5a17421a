use Rattle.std.proofs.Common.{◌+◌, ◌-◌, ◌*◌}
use Rattle.evaluate.proofs.Measures.{from}
use Rattle.evaluate.proofs.evaluation.Evaluation.+numbers_and_locations.Given as goal

abbrev pub decreases-piece_at : goal.decreases-piece_at
decreases-piece_at g l = 3 * (256 - l.row) + 1

abbrev pub decreases-number_at : goal.decreases-number_at
decreases-number_at g l = 3 * (256 - l.row) + 1

abbrev pub decreases-number_by : goal.decreases-number_by
decreases-number_by g l = 3 * (256 - l.row)

abbrev pub decreases-steps : goal.decreases-steps
decreases-steps g l = from 256 l.row

abbrev pub decreases-steps_by : goal.decreases-steps_by
decreases-steps_by g l = 3 * (256 - l.row) + 1
