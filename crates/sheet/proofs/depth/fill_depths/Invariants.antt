use Rattle.std.proofs.Common.{◌≡◌, drop}
use Rattle.sheet.specs.Depths.{entries}
use Rattle.sheet.proofs.depth.fill_depths.Given as goal

abbrev pub invariant-loop-k : goal.invariant-loop-k
invariant-loop-k l = drop l.k l.depths ≡ entries l.k (drop l.k l.rows)
