use Rattle.std.proofs.Common.{arith}
use Rattle.cells.proofs.Changes.{written_all}
use Rattle.cells.proofs.change.write_change.Goals as goal

pub returns-clause-after : goal.returns-clause-after
returns-clause-after g c =
    written_all (g.S.Source.cells c.args.store.now) _ c.args.change.now.place c.loop-i.i
    c.args.change.now.bytes.now c.loop-i.invariant.0 (omega arith)
