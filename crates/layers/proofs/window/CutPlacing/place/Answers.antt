use Rattle.std.proofs.Common.{arith}
use Rattle.layers.proofs.Layers.{window_stands}
use Rattle.layers.proofs.window.CutPlacing.place.Goals as goal

pub returns-then-k-len : goal.returns-then-k-len
returns-then-k-len c below e = window_stands c.args.self.now.start c.args.self.now.count below c.args.k (omega arith)
