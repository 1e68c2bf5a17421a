use Rattle.std.proofs.Common.{take}
use Rattle.cells.specs.Changed.{MakesOf, changes_of}
use Rattle.cells.proofs.patched.Patched.new_byte.Given as goal

-- what the changes by now make of the cell
abbrev pub invariant-loop-change : goal.invariant-loop-change
invariant-loop-change g l = MakesOf (changes_of (take l.change-index l.self.changes.now)) l.k l.byte
