use Rattle.std.proofs.Common.{◌≡◌, ◌≤◌, length, take, drop, None}
use Rattle.list.specs.Contents.{last_of}
use Rattle.list.proofs.places.find_in.Given as goal

-- the entries from this one on do not pass
abbrev pub invariant-loop-i : goal.invariant-loop-i
invariant-loop-i g l =
    record {
      inside : l.i ≤ length (take l.fn.count l.fn.entries);
      none : last_of (g.P.Test.holds l.test) (drop l.i (take l.fn.count l.fn.entries)) ≡ None;
    }

abbrev pub decreases-loop-i : goal.decreases-loop-i
decreases-loop-i g l = l.i
