use Rattle.laws.proofs.Unique.{one_reading}
use Rattle.laws.proofs.one_reading.Goals as goal

pub returns : goal.returns
returns c = one_reading
