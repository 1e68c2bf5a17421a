use Rattle.std.proofs.Common.{rules}
use Rattle.sheet.specs.Sheets.{rows_of, text_of}
use Rattle.reading.proofs.Keeps.{walked_through, walk_refused}
use Rattle.reading.proofs.putting.kept_read.Goals as goal

pub returns-in-Ok-clause-value : goal.returns-in-Ok-clause-value
returns-in-Ok-clause-value g c =
    walked_through (text_of c.args.sheet.now) (rows_of c.args.sheet.now)
    (g.S.Source.cells c.args.source.now)
    c.of.result.len c.of.ensures.len c.args.laid.now c.of.result.kept
    c.args.pieces.now _ (search rules) (search rules) _ c.len.result c.len-wanted.result
    c.in-Ok.ensures.outcome.0 (search rules) (search rules)

pub returns-in-Err-clause-value : goal.returns-in-Err-clause-value
returns-in-Err-clause-value g c =
    walk_refused (text_of c.args.sheet.now) (rows_of c.args.sheet.now)
    (g.S.Source.cells c.args.source.now)
    c.of.result.len c.of.ensures.len c.args.laid.now c.of.result.kept
    c.args.pieces.now _ (search rules) (search rules) _ _ _ c.in-Err.ensures.outcome.0
