use Rattle.laws.proofs.Accepts.{accepts_readings}
use Rattle.laws.proofs.accepts_readings.Goals as goal

pub returns : goal.returns
returns c = accepts_readings
