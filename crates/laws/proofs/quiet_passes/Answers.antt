use Rattle.laws.proofs.Quiet.{quiet_types_pass}
use Rattle.laws.proofs.quiet_passes.Goals as goal

pub returns : goal.returns
returns c = quiet_types_pass
