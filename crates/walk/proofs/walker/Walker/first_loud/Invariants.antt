use Rattle.std.proofs.Common.{◌≡◌}
use Rattle.evaluate.proofs.Measures.{from}
use Rattle.opened.specs.Opens.{records_of}
use Rattle.path.specs.Meaning.{path_of}
use Rattle.sheet.specs.Sheets.{rows_of, text_of}
use Rattle.walk.specs.Frames.{in_record, placed_of}
use Rattle.walk.specs.Quieted.{Noted, StandsFor}
use Rattle.walk.proofs.walker.Walker.first_loud.Given as goal

abbrev pub invariant-loop-at : goal.invariant-loop-at
invariant-loop-at g l =
    record {
      stands : StandsFor (text_of l.self.sheet.now) (rows_of l.self.sheet.now)
          (g.M.Message.meaning l.self.message.now) (placed_of l.fn.pieces)
          (in_record (path_of l.here.path) (records_of l.here) l.fn.next)
          (in_record (path_of l.here.path) (records_of l.here) l.at);
      noted : Noted l.self.sheet.now (g.M.Message.meaning l.self.message.now)
          (placed_of l.fn.pieces) (records_of l.here) l.notes;
      same : l.pieces ≡ l.fn.pieces;
    }

abbrev pub decreases-loop-at : goal.decreases-loop-at
decreases-loop-at g l = from 256 l.at
