use Rattle.std.proofs.Common.{map, length, take, ap, arith, length-append}
use Rattle.meaning.specs.Terms.{piece_of, pieces_of}
use Rattle.sheet.specs.Sheets.{rows_of}
use Rattle.listing.specs.Lines.{ended, whole_text}
use Rattle.listing.specs.Rows.{piece_text}
use Rattle.listing.proofs.Lengths.{piece_long}
use Rattle.listing.proofs.Shares.{piece_more}
use Rattle.listing.proofs.found.Laying.most_of_pieces.Goals as goal

pub loop-piece-preserved : goal.loop-piece-preserved
loop-piece-preserved g c =
    let l = c.args.self.now in
    let line = piece_text (rows_of l.sheet.now) (g.S.Source.cells l.source.now) in
    let more = piece_more line l.pieces.now c.loop-piece.piece-index c.piece-item.result c.loop-piece-test.true c.piece-item.is in
    let front = whole_text (map line (pieces_of (take c.loop-piece.piece-index l.pieces.now))) in
    let both = length-append front (ended (line (piece_of c.piece-item.result))) in
    record {
      lines = omega (
        arith,
        ap length more,
        both,
        piece_long (rows_of l.sheet.now) (g.S.Source.cells l.source.now) c.piece-item.result (omega (arith, c.most_of-most.ensures.place)) (omega (arith, c.most_of-most.ensures.width)),
        c.most_of-most.ensures.is,
        c.loop-piece.invariant.lines,
      );
      few = omega (arith, c.loop-piece.invariant.few, c.most_of-most.ensures.few);
    }
