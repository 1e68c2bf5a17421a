use Rattle.line.proofs.Pieces.{then}
use Rattle.path.proofs.print.StepText.write.Goals as goal

pub returns-in-Field-clause-took : goal.returns-in-Field-clause-took
returns-in-Field-clause-took g c = rw (c.in-Field.is, ← c.as_bytes.ensures) (then g.met.W.Sink.joins c.text.ensures c.text-in-Field.ensures)

pub returns-in-Index-clause-took : goal.returns-in-Index-clause-took
returns-in-Index-clause-took g c =
    rw (c.in-Index.is, ← c.number.ensures.value, ← c.from.ensures)
    (then g.met.W.Sink.joins c.text-in-Index.ensures (then g.met.W.Sink.joins c.number-in-Index.ensures c.text-in-Index-2.ensures))
