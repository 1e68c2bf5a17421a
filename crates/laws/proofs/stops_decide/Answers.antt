use Rattle.laws.proofs.Stops.{stops_decide}
use Rattle.laws.proofs.stops_decide.Goals as goal

pub returns : goal.returns
returns c = stops_decide
