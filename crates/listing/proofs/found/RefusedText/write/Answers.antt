use Rattle.std.proofs.Common.{append-nil}
use Rattle.line.proofs.Pieces.{then}
use Rattle.listing.proofs.Lengths.{refusal_long}
use Rattle.listing.proofs.found.RefusedText.write.Goals as goal

pub returns-clause-took : goal.returns-clause-took
returns-clause-took g c = simp append-nil (then g.met.W.Sink.joins c.text.ensures (then g.met.W.Sink.joins c.put_told.ensures.took c.text-2.ensures))

pub returns-clause-short : goal.returns-clause-short
returns-clause-short g c = refusal_long c.args.self.now.told c.put_told.ensures.short
