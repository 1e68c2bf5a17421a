use Rattle.std.proofs.Common.{◌*◌, ◌≤◌, length, map, take}
use Rattle.meaning.specs.Terms.{pieces_of}
use Rattle.sheet.specs.Sheets.{rows_of}
use Rattle.listing.specs.Lines.{whole_text}
use Rattle.listing.specs.Rows.{piece_text}
use Rattle.listing.proofs.found.Laying.most_of_pieces.Given as goal

abbrev pub invariant-loop-piece : goal.invariant-loop-piece
invariant-loop-piece g l =
    record {
      lines : length (whole_text (map (piece_text (rows_of l.self.sheet.now) (g.S.Source.cells l.self.source.now)) (pieces_of (take l.piece-index l.piece-items)))) ≤ l.most;
      few : l.most ≤ l.piece-index * 702;
    }
