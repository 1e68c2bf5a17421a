use Rattle.std.proofs.Common.{arith}
use Rattle.line.proofs.Pieces.{then}
use Rattle.listing.proofs.Lengths.{few}
use Rattle.listing.proofs.rows.put_value.Goals as goal

pub returns-in-Some-clause-took : goal.returns-in-Some-clause-took
returns-in-Some-clause-took g c = rw c.in-Some.is (then g.met.W.Sink.joins c.text.ensures c.number.ensures)

pub returns-in-Some-clause-short : goal.returns-in-Some-clause-short
returns-in-Some-clause-short g c = rw c.in-Some.is (few c.in-Some.n (omega arith))

pub returns-in-None-clause-took : goal.returns-in-None-clause-took
returns-in-None-clause-took g c = rw c.in-None.is (then g.met.W.Sink.joins c.text.ensures c.text-in-None.ensures)
