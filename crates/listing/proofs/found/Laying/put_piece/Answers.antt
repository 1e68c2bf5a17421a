use Rattle.std.proofs.Common.{◌++◌, ap, ◌∙◌}
use Rattle.path.specs.Meaning.{path_of}
use Rattle.path.specs.Printed.{printed}
use Rattle.sheet.specs.Sheets.{rows_of}
use Rattle.sheet.specs.Verdict.{word_if}
use Rattle.listing.specs.Rows.{word_text, tail_text}
use Rattle.line.proofs.Pieces.{then_is}
use Rattle.listing.proofs.found.Laying.put_piece.Goals as goal

pub returns : goal.returns
returns g c =
    let cells = g.S.Source.cells c.args.self.now.source.now in
    let p = c.args.piece.now in
    let word = word_text (word_if (rows_of c.args.self.now.sheet.now) p.row) in
    let same = ap (λ w. tail_text cells w c.from.result c.from-2.result) c.word_of.ensures
    ∙ ap (λ k. tail_text cells word k c.from-2.result) c.from.ensures ∙ ap (λ k. tail_text cells word p.place k) c.from-2.ensures in
    then_is g.met.W.Sink.joins _ (ap (λ t. printed (path_of p.path) ++ t) same) c.write.ensures.took c.put_tail.ensures
