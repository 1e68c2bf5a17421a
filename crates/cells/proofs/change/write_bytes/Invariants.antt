use Rattle.std.proofs.Common.{◌≡◌, drop}
use Rattle.cells.specs.Changed.{changed, changes_of}
use Rattle.cells.proofs.change.write_bytes.Given as goal

-- the rest of the changes makes of the cells what all of them make
abbrev pub invariant-loop-change : goal.invariant-loop-change
invariant-loop-change g l =
    (changed (g.S.Source.cells l.store) (changes_of (drop l.change-index l.changes))
    ≡ changed (g.S.Source.cells l.initial.store) (changes_of l.changes))
    × ((g.S.Store.spares l.store ≡ g.S.Store.spares l.initial.store)
    × (g.S.Store.fixed l.store ≡ g.S.Store.fixed l.initial.store))
