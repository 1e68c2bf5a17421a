use Rattle.std.proofs.Common.{rules, arith}
use Rattle.cells.proofs.Captures.{pair_answers}
use Rattle.cells.proofs.capture.CaptureSource.read.Goals as goal

pub returns-in-Some-Digits : goal.returns-in-Some-Digits
returns-in-Some-Digits c = pair_answers c.args.self.now.text.now c.args.k c.read_pair.result _ (omega arith) c.read_pair.ensures (search rules)

pub returns-in-Some-Dashes : goal.returns-in-Some-Dashes
returns-in-Some-Dashes c = pair_answers c.args.self.now.text.now c.args.k c.read_pair.result _ (omega arith) c.read_pair.ensures (search rules)
