use Rattle.std.proofs.Common.{◌≤◌}
use Rattle.list.specs.Contents.{backing, room}
use Rattle.sheet.specs.Sheets.{rows_of, text_of}
use Rattle.walk.specs.Frames.{open_of, placed_of}
use Rattle.walk.specs.Placers.{Keeps}
use Rattle.walk.specs.Turns.{turns_left}
use Rattle.walk.proofs.Running.{Running}
use Rattle.walk.proofs.walker.Walker.work_off.Given as goal

abbrev pub invariant-loop-frame : goal.invariant-loop-frame
invariant-loop-frame g l =
    record {
      running : Running (text_of l.self.sheet.now) (rows_of l.self.sheet.now)
          (g.M.Message.meaning l.self.message.now)
          (g.P.Placer.bars l.self.placer.now (backing l.fn.pieces)) (open_of l.fn.frames)
          (open_of l.frames) (placed_of l.pieces) l.place;
      keeps : Keeps (g.P.Placer.bars l.self.placer.now) (g.P.Placer.leaves l.self.placer.now)
          l.fn.pieces l.pieces;
      room : 10 ≤ room l.frames;
    }

abbrev pub decreases-loop-frame : goal.decreases-loop-frame
decreases-loop-frame g l = turns_left (text_of l.self.sheet.now) (rows_of l.self.sheet.now)
    (open_of l.frames)
