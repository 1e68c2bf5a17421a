use Rattle.std.proofs.Common.{◌≡◌, ◌-◌, List, [], ◌∷◌, ◌++◌}
use Rattle.list.specs.Contents.{backing}
use Rattle.path.specs.Meaning.{Downward, path_of}
use Rattle.sheet.specs.Sheets.{rows_of, text_of}
use Rattle.meaning.specs.Terms.{Path}
use Rattle.walk.specs.Frames.{placed_of}
use Rattle.walk.specs.Placers.{Keeps}
use Rattle.walk.specs.Walks.{Reached}
use Rattle.walk.proofs.Elements.{elements}
use Rattle.walk.proofs.walker.Walker.bases.Given as goal

-- the elements so far are placed, and those that are left come to the same
abbrev pub invariant-loop-i : goal.invariant-loop-i
invariant-loop-i g l =
    let s = l.self.sheet.now in
    let message = g.M.Message.meaning l.self.message.now in
    let bars = g.P.Placer.bars l.self.placer.now (backing l.fn.pieces) in
    record {
      same : (O : List Path) → elements (text_of s) (rows_of s) message bars (path_of l.fn.here)
          l.row l.index (l.count - l.index) (placed_of l.fn.pieces) O
          ≡ elements (text_of s) (rows_of s) message bars (path_of l.fn.here) l.row l.i
          (l.count - l.i) (placed_of l.pieces) O;
      reached : Reached (placed_of l.pieces) l.place;
      there : (e : Downward) × (path_of l.there ≡ path_of l.fn.here ++ e ∷ []);
      keeps : Keeps (g.P.Placer.bars l.self.placer.now) (g.P.Placer.leaves l.self.placer.now)
          l.fn.pieces l.pieces;
    }
