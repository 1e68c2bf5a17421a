use Rattle.std.proofs.Common.{rules}
use Rattle.cells.proofs.Faults.{no_fault}
use Rattle.cells.proofs.capture.Capture.open.Goals as goal

pub returns-in-None-clause-faults : goal.returns-in-None-clause-faults
returns-in-None-clause-faults c = no_fault c.args.text.now (search rules)
