use Rattle.laws.proofs.Prefix.{covered_cells_decide}
use Rattle.laws.proofs.covered_cells_decide.Goals as goal

pub returns : goal.returns
returns c = covered_cells_decide
