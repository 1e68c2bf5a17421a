use Rattle.std.proofs.Common.{map}
use Rattle.meaning.specs.Terms.{pieces_of}
use Rattle.sheet.specs.Sheets.{rows_of}
use Rattle.listing.specs.Lines.{laid_header}
use Rattle.listing.specs.Rows.{piece_text, rest_text}
use Rattle.line.proofs.Pieces.{then, then_is}
use Rattle.listing.proofs.Shares.{line_last}
use Rattle.listing.proofs.found.LayingText.write.Goals as goal

pub returns-clause-took : goal.returns-clause-took
returns-clause-took g c =
    let j = g.met.W.Sink.joins in
    let l = c.args.self.now in
    let cells = g.S.Source.cells l.source.now in
    let lines = map (piece_text (rows_of l.sheet.now) cells) (pieces_of l.pieces.now) in
    then_is j _ (line_last laid_header lines (rest_text cells l.covered)) c.text.ensures (then j c.put_pieces.ensures (then j c.put_rest.ensures c.text-2.ensures))
