use Rattle.std.proofs.Common.{◌-◌, Some, refl, sym, ap, ◌∙◌, arith}
use Rattle.path.specs.Meaning.{path_of}
use Rattle.opened.proofs.Climbs.{climbed_past, climbed_at}
use Rattle.opened.proofs.Opened.climb.Goals as goal

pub returns-then-k-self : goal.returns-then-k-self
returns-then-k-self c =
    sym (climbed_past (path_of c.args.self.now.path) c.args.self.now.lens c.args.self.now.count
    c.args.k (omega arith))

pub returns : goal.returns
returns c =
    ap Some c.front.ensures
    ∙ sym (climbed_at (path_of c.args.self.now.path) c.args.self.now.lens c.args.self.now.count
    c.args.k (c.args.self.now.count - 1 - c.args.k) c.if-k-self.false refl)
