use Rattle.laws.proofs.Naming.{paths_differ}
use Rattle.laws.proofs.paths_differ.Goals as goal

pub returns : goal.returns
returns c = paths_differ
