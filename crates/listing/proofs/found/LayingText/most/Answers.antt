use Rattle.std.proofs.Common.{length, [], ◌∷◌, ◌++◌, map, ap, arith, length-append}
use Rattle.meaning.specs.Terms.{pieces_of}
use Rattle.sheet.specs.Sheets.{rows_of}
use Rattle.listing.specs.Lines.{ended, laid_header, whole_text}
use Rattle.listing.specs.Rows.{piece_text, rest_text}
use Rattle.listing.proofs.Lengths.{rest_long}
use Rattle.listing.proofs.Shares.{line_last}
use Rattle.listing.proofs.found.LayingText.most.Goals as goal

pub returns : goal.returns
returns g c =
    let l = c.args.self.now in
    let cs = g.S.Source.cells l.source.now in
    let lines = map (piece_text (rows_of l.sheet.now) cs) (pieces_of l.pieces.now) in
    let rest = rest_text cs l.covered in
    let whole = ap length (line_last laid_header lines rest) in
    omega (
      arith,
      whole,
      c.most_of_pieces.ensures.lines,
      c.len.ensures,
      c.saturating_sub-rest.ensures,
      rest_long cs l.covered (omega arith) (omega arith),
      length-append (ended laid_header) (whole_text lines ++ ended rest),
      length-append (whole_text lines) (ended rest),
      length-append rest (10 ∷ []),
    )
