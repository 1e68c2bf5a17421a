use Rattle.std.proofs.Common.{◌≡◌, ◌*◌, drop}
use Rattle.cells.specs.Captured.{bad_from}
use Rattle.cells.proofs.capture.first_bad.Given as goal

-- the pairs so far are good
abbrev pub invariant-loop-i : goal.invariant-loop-i
invariant-loop-i l = bad_from l.i (drop (2 * l.i) l.text) ≡ bad_from 0 l.text
