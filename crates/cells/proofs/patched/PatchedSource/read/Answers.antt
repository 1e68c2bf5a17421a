use Rattle.std.proofs.Common.{arith}
use Rattle.cells.specs.Changed.{changes_of}
use Rattle.cells.proofs.Changes.{past_answers, new_answers, old_answers}
use Rattle.cells.proofs.patched.PatchedSource.read.Goals as goal

pub returns-then-k-len : goal.returns-then-k-len
returns-then-k-len g c =
    let s = c.args.self.now in
    past_answers (g.S.Source.cells s.below.now) (changes_of s.changes.now) c.args.k (omega arith)

pub returns-in-Some : goal.returns-in-Some
returns-in-Some g c =
    let s = c.args.self.now in
    new_answers (g.S.Source.cells s.below.now) (changes_of s.changes.now) c.args.k
    c.in-Some.b (omega arith) c.in-Some.ensures

pub returns-in-None : goal.returns-in-None
returns-in-None g c =
    let s = c.args.self.now in
    old_answers (g.S.Source.cells s.below.now) (changes_of s.changes.now) c.args.k
    c.read.result c.in-None.ensures c.read.ensures
