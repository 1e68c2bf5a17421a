use Rattle.std.proofs.Common.{◌≡◌, ◌+◌, true, drop}
use Rattle.input.specs.Parts.{empty_at}
use Rattle.input.proofs.empty_line.Given as goal

abbrev pub invariant-loop-i : goal.invariant-loop-i
invariant-loop-i l = l.i + empty_at l.fresh (drop l.i l.text) ≡ empty_at true l.text
