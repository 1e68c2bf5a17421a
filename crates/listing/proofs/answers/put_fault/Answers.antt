use Rattle.line.proofs.Pieces.{then}
use Rattle.listing.proofs.answers.put_fault.Goals as goal

pub returns : goal.returns
returns g c = then g.met.W.Sink.joins c.text.ensures c.put_told.ensures.took
