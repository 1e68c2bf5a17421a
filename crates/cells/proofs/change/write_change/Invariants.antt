use Rattle.std.proofs.Common.{◌≡◌, take}
use Rattle.cells.specs.Changed.{with_bytes}
use Rattle.cells.proofs.change.write_change.Given as goal

-- the first bytes are written
abbrev pub invariant-loop-i : goal.invariant-loop-i
invariant-loop-i g l =
    (g.S.Source.cells l.store ≡ with_bytes (g.S.Source.cells l.initial.store) l.place
    (take l.i l.bytes))
    × ((g.S.Store.spares l.store ≡ g.S.Store.spares l.initial.store)
    × (g.S.Store.fixed l.store ≡ g.S.Store.fixed l.initial.store))
