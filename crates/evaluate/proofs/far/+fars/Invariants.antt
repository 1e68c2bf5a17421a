use Rattle.std.proofs.Common.{◌+◌, ◌-◌, ◌*◌}
use Rattle.evaluate.proofs.Measures.{from}
use Rattle.evaluate.proofs.far.+fars.Given as goal

abbrev pub decreases-number_at : goal.decreases-number_at
decreases-number_at l = 3 * (256 - l.row) + 1

abbrev pub decreases-number_by : goal.decreases-number_by
decreases-number_by l = 3 * (256 - l.row)

abbrev pub decreases-place_at : goal.decreases-place_at
decreases-place_at l = 3 * (256 - l.row) + 1

abbrev pub decreases-steps_at : goal.decreases-steps_at
decreases-steps_at l = from 256 l.row

abbrev pub decreases-steps_by : goal.decreases-steps_by
decreases-steps_by l = 3 * (256 - l.row) + 1
