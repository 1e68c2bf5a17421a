use Rattle.laws.proofs.Naming.{paths_differ_ahead}
use Rattle.laws.proofs.paths_differ_ahead.Goals as goal

pub returns : goal.returns
returns c = paths_differ_ahead
