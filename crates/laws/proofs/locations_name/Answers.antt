use Rattle.laws.proofs.Locations.{locations_name}
use Rattle.laws.proofs.locations_name.Goals as goal

pub returns : goal.returns
returns c = locations_name
