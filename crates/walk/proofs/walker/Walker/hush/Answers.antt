use Rattle.std.proofs.Common.{sym, ◌∙◌}
use Rattle.sheet.specs.Sheets.{rows_of, text_of}
use Rattle.walk.specs.Frames.{open_of, placed_of}
use Rattle.walk.proofs.Louder.{hushed_none}
use Rattle.walk.proofs.walker.Walker.hush.Goals as goal

pub returns-in_default-clause-hushed : goal.returns-in_default-clause-hushed
returns-in_default-clause-hushed g c =
    let s = c.args.self.now.sheet.now in
    hushed_none (text_of s) (rows_of s) (g.M.Message.meaning c.args.self.now.message.now)
    (placed_of c.args.pieces.now) (open_of c.args.frames.now) (open_of c.pop.new.frames)
    (c.in_default.ensures.open.1 ∙ sym c.in_default.ensures.open.0) c.requires.shallow
