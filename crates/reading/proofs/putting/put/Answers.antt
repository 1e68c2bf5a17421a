use Rattle.std.proofs.Common.{rules, ap, ◌∙◌, Ok, Err}
use Rattle.told.specs.Answers.{given, refused, bare}
use Rattle.meaning.specs.Terms.{pieces_of}
use Rattle.sheet.specs.Sheets.{rows_of, text_of}
use Rattle.reading.specs.declared.refusals.PutRefusal.TheVariants as puts
use Rattle.reading.proofs.Puts.{put_made, puts_reading}
use Rattle.reading.proofs.putting.put.Goals as goal

pub returns-in_err-piece-clause-made : goal.returns-in_err-piece-clause-made
returns-in_err-piece-clause-made g c =
    put_made (text_of c.args.sheet.now) (rows_of c.args.sheet.now)
    (g.S.Source.cells c.args.store.now) (pieces_of c.args.pieces.now) c.args.path.now
    c.args.bytes.now
    c.args.laid.now c.from_residual.result (g.S.Source.cells c.args.store.now) _ (search rules)
    (search rules) (ap pieces_of c.meant_piece.ensures.same)

pub returns-then-bytes-from-clause-made : goal.returns-then-bytes-from-clause-made
returns-then-bytes-from-clause-made g c =
    put_made (text_of c.args.sheet.now) (rows_of c.args.sheet.now)
    (g.S.Source.cells c.args.store.now) (pieces_of c.args.pieces.now) c.args.path.now
    c.args.bytes.now
    c.args.laid.now (Err puts.WrongWidth) (g.S.Source.cells c.args.store.now) _ (search rules)
    (search rules) (ap pieces_of c.meant_piece.ensures.same)

pub returns-then-not-would_read-clause-made : goal.returns-then-not-would_read-clause-made
returns-then-not-would_read-clause-made g c =
    put_made (text_of c.args.sheet.now) (rows_of c.args.sheet.now)
    (g.S.Source.cells c.args.store.now) (pieces_of c.args.pieces.now) c.args.path.now
    c.args.bytes.now
    c.args.laid.now (Err puts.NoReading) (g.S.Source.cells c.args.store.now) _ (search rules)
    (search rules)
    (ap pieces_of (c.would_read.ensures.same ∙ c.meant_piece.ensures.same))

pub returns-clause-made : goal.returns-clause-made
returns-clause-made g c =
    put_made (text_of c.args.sheet.now) (rows_of c.args.sheet.now)
    (g.S.Source.cells c.args.store.now) (pieces_of c.args.pieces.now) c.args.path.now
    c.args.bytes.now
    c.args.laid.now (Ok tt) (g.S.Source.cells c.write_bytes.new.store) _ (search rules)
    (search rules)
    (ap pieces_of (c.would_read.ensures.same ∙ c.meant_piece.ensures.same))

pub returns-then-not-would_read-clause-reading : goal.returns-then-not-would_read-clause-reading
returns-then-not-would_read-clause-reading g c =
    puts_reading (text_of c.args.sheet.now) (rows_of c.args.sheet.now)
    (g.S.Source.cells c.args.store.now) (pieces_of c.args.pieces.now) c.args.path.now
    c.args.bytes.now
    c.args.laid.now (refused (bare 24)) (search rules)

pub returns-clause-reading : goal.returns-clause-reading
returns-clause-reading g c =
    puts_reading (text_of c.args.sheet.now) (rows_of c.args.sheet.now)
    (g.S.Source.cells c.args.store.now) (pieces_of c.args.pieces.now) c.args.path.now
    c.args.bytes.now
    c.args.laid.now (given tt) (search rules)
