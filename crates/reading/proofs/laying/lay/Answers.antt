use Rattle.std.proofs.Common.{rules, Ok}
use Rattle.sheet.specs.Sheets.{rows_of, text_of}
use Rattle.laws.proofs.Unique.{one_reading}
use Rattle.reading.proofs.Lays.{lay_made, lays_reading, placed_entries}
use Rattle.reading.proofs.laying.lay.Goals as goal

pub returns-in_err-cover-clause-reading : goal.returns-in_err-cover-clause-reading
returns-in_err-cover-clause-reading g c =
    lays_reading (text_of c.args.sheet.now) (rows_of c.args.sheet.now)
    (g.S.Source.cells c.args.source.now)
    c.args.pieces.now c.place_pieces.new.pieces c.from_residual.result (search rules) (search rules)

pub returns-in_err-cover-clause-made : goal.returns-in_err-cover-clause-made
returns-in_err-cover-clause-made g c =
    lay_made (text_of c.args.sheet.now) (rows_of c.args.sheet.now)
    (g.S.Source.cells c.args.source.now)
    c.args.pieces.now c.place_pieces.new.pieces c.from_residual.result (search rules) (search rules)
    c.args.laid.now _ (search rules)

pub returns-in_err-cover-clause-entries : goal.returns-in_err-cover-clause-entries
returns-in_err-cover-clause-entries g c =
    placed_entries (text_of c.args.sheet.now) (rows_of c.args.sheet.now)
    (g.S.Source.cells c.args.source.now)
    c.args.pieces.now c.place_pieces.new.pieces c.from_residual.result (search rules) (search rules)

pub returns-in_err-cover-clause-one : goal.returns-in_err-cover-clause-one
returns-in_err-cover-clause-one g c =
    one_reading (text_of c.args.sheet.now) (rows_of c.args.sheet.now)

pub returns-clause-reading : goal.returns-clause-reading
returns-clause-reading g c =
    lays_reading (text_of c.args.sheet.now) (rows_of c.args.sheet.now)
    (g.S.Source.cells c.args.source.now)
    c.args.pieces.now c.place_pieces.new.pieces (Ok c.in_ok-cover.cover) (search rules)
    (search rules)

pub returns-clause-made : goal.returns-clause-made
returns-clause-made g c =
    lay_made (text_of c.args.sheet.now) (rows_of c.args.sheet.now)
    (g.S.Source.cells c.args.source.now)
    c.args.pieces.now c.place_pieces.new.pieces (Ok c.in_ok-cover.cover) (search rules)
    (search rules)
    c.args.laid.now _ (search rules)

pub returns-clause-entries : goal.returns-clause-entries
returns-clause-entries g c =
    placed_entries (text_of c.args.sheet.now) (rows_of c.args.sheet.now)
    (g.S.Source.cells c.args.source.now)
    c.args.pieces.now c.place_pieces.new.pieces (Ok c.in_ok-cover.cover) (search rules)
    (search rules)

pub returns-clause-one : goal.returns-clause-one
returns-clause-one g c = one_reading (text_of c.args.sheet.now) (rows_of c.args.sheet.now)
