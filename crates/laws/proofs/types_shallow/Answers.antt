use Rattle.laws.proofs.Nested.{types_shallow}
use Rattle.laws.proofs.types_shallow.Goals as goal

pub returns : goal.returns
returns c = types_shallow
