use Rattle.std.proofs.Common.{◌+◌, ◌-◌, ◌*◌}
use Rattle.evaluate.proofs.Measures.{from}
use Rattle.walk.proofs.walker.Walker.+quiet.Given as goal

abbrev pub decreases-quiet_at : goal.decreases-quiet_at
decreases-quiet_at g l = 3 * (256 - l.row) + 2

abbrev pub decreases-quiet_by : goal.decreases-quiet_by
decreases-quiet_by g l = 3 * (256 - l.row) + 1

abbrev pub decreases-quiet_rest : goal.decreases-quiet_rest
decreases-quiet_rest g l = from 256 l.next
