use Rattle.std.proofs.Common.{◌-◌, arith}
use Rattle.opened.specs.Opens.{records_of}
use Rattle.path.specs.Meaning.{path_of}
use Rattle.walk.specs.Frames.{placed_of}
use Rattle.walk.proofs.Louder.{noted_nothing, array_on}
use Rattle.walk.proofs.walker.Walker.first_loud_element.Goals as goal

pub quiet_at-requires-clause-noted : goal.quiet_at-requires-clause-noted
quiet_at-requires-clause-noted g c =
    noted_nothing c.args.self.now.sheet.now (g.M.Message.meaning c.args.self.now.message.now)
    (placed_of c.args.pieces.now) (records_of c.args.here.now) 2304

pub returns-then-quiet_at-clause-stands : goal.returns-then-quiet_at-clause-stands
returns-then-quiet_at-clause-stands g c =
    array_on c.args.self.now.sheet.now (g.M.Message.meaning c.args.self.now.message.now)
    (placed_of c.args.pieces.now) (path_of c.args.here.now.path) (records_of c.args.here.now)
    c.args.element c.args.index (c.args.count - c.args.index) c.args.count
    (c.args.count - c.args.count) (omega arith)
    (c.quiet_at.ensures.quiet c.if-quiet_at.true)
