use Rattle.std.proofs.Common.{◌≡◌, ◌≤◌, length, take, ap, ◌∙◌, subst, arith}
use Rattle.cells.specs.Captured.{opened}
use Rattle.line.specs.Text.{Appended}
use Rattle.sheet_text.specs.Refusals.{sheet_told}
use Rattle.input.proofs.Cuts.{capture_short}
use Rattle.meaning.specs.Terms.{pieces_of}
use Rattle.listing.specs.Lines.{fault, left_by, lines_of, of_message, whole_text, listing}
use Rattle.listing.proofs.Wholes.{accepted_is, left_accepted, left_is, left_refused, rows_read, sheet_refused, whole_is}
use Rattle.listing.proofs.write_listing.Goals as goal
use Rattle.listing.proofs.write_listing.Goals.{In-Ok, In-Err}

-- the text of the listing by the rows that were read
read_is : (c : In-Ok) → whole_text (lines_of (of_message c.of-input.result.sheet.now (take c.in-Ok.n c.read_sheet.new.table) (length c.args.pieces.now) (opened c.of-input.result.capture.now)))
    ≡ listing (length c.args.table.now) (length c.args.pieces.now) c.args.bytes.now
read_is c =
    let sheet = c.of-input.result.sheet.now in
    let capture = c.of-input.result.capture.now in
    let places = length c.args.table.now in
    let room = length c.args.pieces.now in
    ap (λ rows. whole_text (lines_of (of_message sheet rows room (opened capture)))) (rows_read sheet c.args.table.now c.read_sheet.new.table c.in-Ok.n c.in-Ok.ensures.result c.in-Ok.ensures.rows)
    ∙ ap (λ o. whole_text (lines_of o)) (accepted_is places room sheet capture c.in-Ok.n c.in-Ok.ensures.result)
    ∙ whole_is places room c.args.bytes.now sheet capture c.of-input.ensures.sheet c.of-input.ensures.capture

pub returns-in-Ok-clause-value : goal.returns-in-Ok-clause-value
returns-in-Ok-clause-value c =
    subst (λ t. Appended c.args.out.now t c.write_rows.result c.write_rows.new.out) (read_is (goal.at.returns-in-Ok-clause-value c).In-Ok) c.write_rows.ensures.value.value

pub returns-in-Ok-clause-fits : goal.returns-in-Ok-clause-fits
returns-in-Ok-clause-fits c h =
    let short : length c.of-input.result.capture.now ≤ 60000 = omega (arith, ap length c.of-input.ensures.capture, capture_short c.args.bytes.now) in
    subst (λ t. length t ≤ 262144) (read_is (goal.at.returns-in-Ok-clause-fits c).In-Ok) (c.write_rows.ensures.fits h short)

-- the text of a refusal of the sheet
fault_is : (c : In-Err) → whole_text (lines_of (fault (sheet_told c.in-Err.refusal))) ≡ listing (length c.args.table.now) (length c.args.pieces.now) c.args.bytes.now
fault_is c =
    let sheet = c.of-input.result.sheet.now in
    let capture = c.of-input.result.capture.now in
    let places = length c.args.table.now in
    let room = length c.args.pieces.now in
    ap (λ o. whole_text (lines_of o)) (sheet_refused places room sheet capture c.in-Err.refusal c.in-Err.ensures.result)
    ∙ whole_is places room c.args.bytes.now sheet capture c.of-input.ensures.sheet c.of-input.ensures.capture

pub returns-in-Err-clause-value : goal.returns-in-Err-clause-value
returns-in-Err-clause-value c =
    let same = ap (λ t. whole_text (lines_of (fault t))) c.from.ensures ∙ fault_is (goal.at.returns-in-Err-clause-value c).In-Err in
    subst (λ t. Appended c.args.out.now t c.push.result c.push.new.self) same c.push.ensures.value.value

pub returns-in-Err-clause-fits : goal.returns-in-Err-clause-fits
returns-in-Err-clause-fits c h =
    let same = ap (λ t. whole_text (lines_of (fault t))) c.from.ensures ∙ fault_is (goal.at.returns-in-Err-clause-fits c).In-Err in
    subst (λ t. length t ≤ 262144) same (omega (arith, c.push.ensures.short))

pub returns-in-Ok-clause-entries : goal.returns-in-Ok-clause-entries
returns-in-Ok-clause-entries c =
    let sheet = c.of-input.result.sheet.now in
    let capture = c.of-input.result.capture.now in
    let places = length c.args.table.now in
    let room = length c.args.pieces.now in
    let entries = pieces_of c.args.pieces.now in
    c.write_rows.ensures.entries
    ∙ ap (λ rows. left_by sheet rows room entries (opened capture)) (rows_read sheet c.args.table.now c.read_sheet.new.table c.in-Ok.n c.in-Ok.ensures.result c.in-Ok.ensures.rows)
    ∙ left_accepted places room entries sheet capture c.in-Ok.n c.in-Ok.ensures.result
    ∙ left_is places room entries c.args.bytes.now sheet capture c.of-input.ensures.sheet c.of-input.ensures.capture

pub returns-in-Err-clause-entries : goal.returns-in-Err-clause-entries
returns-in-Err-clause-entries c =
    let sheet = c.of-input.result.sheet.now in
    let capture = c.of-input.result.capture.now in
    let places = length c.args.table.now in
    let room = length c.args.pieces.now in
    let entries = pieces_of c.args.pieces.now in
    left_refused places room entries sheet capture c.in-Err.refusal c.in-Err.ensures.result
    ∙ left_is places room entries c.args.bytes.now sheet capture c.of-input.ensures.sheet c.of-input.ensures.capture
