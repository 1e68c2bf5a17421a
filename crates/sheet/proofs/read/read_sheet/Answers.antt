use Rattle.std.proofs.Common.{◌≡◌, length, take, Some, None, Ok, Err, Option, sym, ap, ◌∙◌, rules}
use Rattle.told.specs.Answers.{as_told}
use Rattle.sheet_text.specs.Refusals.{sheet_told}
use Rattle.sheet_text.specs.Rows.{lines_of}
use Rattle.sheet_text.specs.declared.refusal.SheetRefusal.{SheetRefusal}
use Rattle.sheet.specs.Sheets.{after, read_of}
use Rattle.sheet.specs.Verdict.{verdict}
use Rattle.sheet.proofs.Whole.{front, accepted, denied, reads_so}
use Rattle.sheet.proofs.read.read_sheet.Goals as goal
use Rattle.sheet.proofs.read.read_sheet.Goals.{After-check}

-- the verdict on the rows that were checked is that on the rows of the lines
judged_as : (c : After-check) (o : Option SheetRefusal) → verdict c.args.text.now (take c.in_ok-n.n c.read_rows.new.table) ≡ o → (read_of c.args.text.now (length c.args.table.now)).result ≡ after (Ok c.in_ok-n.n) o
judged_as c o e =
    let text = c.args.text.now in
    let table = c.args.table.now in
    let n = c.in_ok-n.n in
    let ok : (lines_of text (length table)).result ≡ Ok n = sym c.read_rows.ensures.result ∙ c.in_ok-n.was in
    let same : take n c.read_rows.new.table ≡ (lines_of text (length table)).rows = ap (take n) c.read_rows.ensures.rows ∙ front text table n ok in
    ap (λ r. after r (verdict text (lines_of text (length table)).rows)) ok ∙ ap (after (Ok n)) (ap (verdict text) (sym same) ∙ e)

pub returns-in_err-check : goal.returns-in_err-check
returns-in_err-check c =
    let w = (goal.at.returns-in_err-check c).After-check in
    let f = c.in_err-check.field-0.0 in
    let e : c.from_residual-in_err-check.result ≡ Err f = search rules in
    let is = e ∙ sym (judged_as w (Some f) (denied _ f (sym c.check.ensures ∙ c.in_err-check.was))) in
    let left = c.read_rows.new.table in
    record {
      told = ap (as_told sheet_told) is;
      result = is;
      rows = c.read_rows.ensures.rows;
      reads = reads_so c.args.text.now c.args.table.now left c.read_rows.ensures.rows c.from_residual-in_err-check.result is;
    }

pub returns : goal.returns
returns c =
    let w = (goal.at.returns c).After-check in
    let is = sym (judged_as w None (accepted _ (sym c.check.ensures ∙ c.in_ok-check.was))) in
    let left = c.read_rows.new.table in
    record {
      told = ap (as_told sheet_told) is;
      result = is;
      rows = c.read_rows.ensures.rows;
      reads = reads_so c.args.text.now c.args.table.now left c.read_rows.ensures.rows (Ok c.in_ok-n.n) is;
    }
