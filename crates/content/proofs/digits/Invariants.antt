use Rattle.std.proofs.Common.{◌≡◌, ◌-◌, ◌^◌, ◌<◌, drop}
use Rattle.meaning.specs.Terms.{piece_of}
use Rattle.meaning.specs.Values.{content, unsigned}
use Rattle.content.proofs.digits.Given as goal

-- with the cells that are left, the digits so far write what the piece does; each takes a byte
abbrev pub invariant-loop-k : goal.invariant-loop-k
invariant-loop-k g l =
    let cs = g.S.Source.cells l.source in
    (unsigned l.n (l.k-end - l.k) (drop l.k cs) ≡ content cs (piece_of l.piece))
    × (l.n < 256 ^ (l.k - l.place))
