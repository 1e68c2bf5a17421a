use Rattle.reading.specs.Steps.{lifted}
use Rattle.reading.proofs.Settling.{made}
use Rattle.reading.proofs.laying.lift.Goals as goal

pub returns-clause-made : goal.returns-clause-made
returns-clause-made c text rows cells pieces = made text rows lifted
