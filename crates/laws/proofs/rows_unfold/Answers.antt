use Rattle.laws.proofs.Unfold.{rows_unfold}
use Rattle.laws.proofs.rows_unfold.Goals as goal

pub returns : goal.returns
returns c = rows_unfold
