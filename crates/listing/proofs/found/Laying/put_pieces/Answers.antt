use Rattle.sheet.specs.Sheets.{rows_of}
use Rattle.listing.specs.Rows.{piece_text}
use Rattle.line.proofs.Pieces.{then, then_is}
use Rattle.listing.proofs.Shares.{piece_more}
use Rattle.listing.proofs.found.Laying.put_pieces.Goals as goal

pub loop-piece-preserved : goal.loop-piece-preserved
loop-piece-preserved g c =
    let l = c.args.self.now in
    let line = piece_text (rows_of l.sheet.now) (g.S.Source.cells l.source.now) in
    then_is g.met.W.Sink.joins _ (piece_more line l.pieces.now c.loop-piece.piece-index c.piece-item.result c.loop-piece-test.true c.piece-item.is)
    c.loop-piece.invariant (then g.met.W.Sink.joins c.put_piece.ensures c.text.ensures)
