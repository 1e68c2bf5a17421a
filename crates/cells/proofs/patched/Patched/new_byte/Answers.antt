use Rattle.cells.proofs.Changes.{makes_next}
use Rattle.cells.proofs.patched.Patched.new_byte.Goals as goal

pub loop-change-preserved : goal.loop-change-preserved
loop-change-preserved g c =
    makes_next c.args.self.now.changes.now c.loop-change.change-index c.args.k _ c.byte_at.result
    c.loop-change.byte c.or-byte.result
    c.loop-change-test.true c.loop-change.invariant c.byte_at.ensures c.or-byte.ensures
