use Rattle.std.proofs.Common.{◌≤◌, length, ap, ◌∙◌, subst, arith}
use Rattle.cells.specs.Captured.{bad_from, capture_cells}
use Rattle.cells.specs.Laws.{capture_length}
use Rattle.sheet.specs.Sheets.{rows_of, text_of}
use Rattle.meaning.specs.Terms.{pieces_of}
use Rattle.listing.specs.Lines.{left_by, lines_of, of_message, whole_text}
use Rattle.listing.proofs.Wholes.{opened_cells}
use Rattle.listing.proofs.write_capture.Goals as goal

pub returns-in-Ok-clause-fits : goal.returns-in-Ok-clause-fits
returns-in-Ok-clause-fits c h k =
    let sheet = c.args.sheet.now in
    let t = c.args.capture.now in
    let cells = capture_cells c.in-Ok.source.text.now in
    let same = opened_cells (bad_from 0 t) (capture_cells t) cells c.in-Ok.ensures.told in
    let few : length cells ≤ 30000 = omega (arith, ap length same, capture_length t, k) in
    subst (λ a. length (whole_text (lines_of (of_message (text_of sheet) (rows_of sheet) (length c.args.pieces.now) a))) ≤ 262144)
    c.in-Ok.ensures.told (c.write_message.ensures.fits h few)

pub returns-in-Ok-clause-entries : goal.returns-in-Ok-clause-entries
returns-in-Ok-clause-entries c =
    let sheet = c.args.sheet.now in
    c.write_message.ensures.entries
    ∙ ap (left_by (text_of sheet) (rows_of sheet) (length c.args.pieces.now) (pieces_of c.args.pieces.now)) c.in-Ok.ensures.told

pub returns-in-Err-clause-entries : goal.returns-in-Err-clause-entries
returns-in-Err-clause-entries c =
    let sheet = c.args.sheet.now in
    ap (left_by (text_of sheet) (rows_of sheet) (length c.args.pieces.now) (pieces_of c.args.pieces.now)) c.in-Err.ensures.told
