use Rattle.std.proofs.Common.{◌<◌, length, get_or, sym, ap, arith, true-eqb, false-eqb, ◌∙◌, ◌≡◌, None, Err, rules, tests}
use Rattle.sheet_text.specs.declared.refusal.Reason.TheVariants as reason
use Rattle.sheet.specs.Checks.{keeps_rule, no_row}
use Rattle.sheet.specs.Fields.{fields_differ}
use Rattle.sheet.specs.Depths.{entries, shallow}
use Rattle.sheet.specs.Verdict.{verdict, answer, fault_or, column_fault, field_fault, depth_fault}
use Rattle.sheet.proofs.Faults.{no_rows, many_rows, few_rows, stops, passes}
use Rattle.sheet.proofs.draft.Draft.check.Goals as goal
use Rattle.sheet.proofs.draft.Draft.check.Goals.{After-each_row, After-each_row-2}

pub returns-then-is_empty : goal.returns-then-is_empty
unfolding verdict
returns-then-is_empty c =
    let text = c.args.self.now.text.now in
    let rows = c.args.self.now.rows.now in
    sym (ap answer (no_rows (length rows) (column_fault text rows) (field_fault text rows) (depth_fault rows) (true-eqb (length rows) 0 c.if-is_empty.ensures)))

pub returns-then-self-gt-MAX_ROWS : goal.returns-then-self-gt-MAX_ROWS
unfolding verdict
returns-then-self-gt-MAX_ROWS c =
    let text = c.args.self.now.text.now in
    let rows = c.args.self.now.rows.now in
    sym (ap answer (many_rows (length rows) (column_fault text rows) (field_fault text rows) (depth_fault rows) (omega arith)))

-- what each check answered, by the lowest row that fails it
columns : (c : After-each_row) → c.each_row.result ≡ answer (fault_or reason.Column (column_fault c.args.self.now.text.now c.args.self.now.rows.now) None)
columns c = c.each_row.ensures (keeps_rule c.args.self.now.text.now c.args.self.now.rows.now) (λ k h b t. search (rules, tests))

fields : (c : After-each_row-2) → c.each_row-2.result ≡ answer (fault_or reason.Field (field_fault c.args.self.now.text.now c.args.self.now.rows.now) None)
fields c = c.each_row-2.ensures (λ k r. fields_differ c.args.self.now.text.now c.args.self.now.rows.now r) (λ k h b t. search (rules, tests))

-- there are 1 to 256 rows
counted : (c : After-each_row) → verdict c.args.self.now.text.now c.args.self.now.rows.now ≡ fault_or reason.Column (column_fault c.args.self.now.text.now c.args.self.now.rows.now) (fault_or reason.Field (field_fault c.args.self.now.text.now c.args.self.now.rows.now) (fault_or reason.Depth (depth_fault c.args.self.now.rows.now) None))
unfolding verdict
counted c =
    let some : 0 < length c.args.self.now.rows.now = let ne = false-eqb (length c.args.self.now.rows.now) 0 c.if-is_empty.ensures in omega arith in
    few_rows (length c.args.self.now.rows.now) _ _ _ some (omega arith)

pub returns-in_err-each_row : goal.returns-in_err-each_row
returns-in_err-each_row c =
    let w = (goal.at.returns-in_err-each_row c).After-each_row in
    let f = c.in_err-each_row.field-0.0 in
    let e : c.from_residual.result ≡ Err f = search rules in
    e ∙ stops reason.Column _ _ f (sym c.in_err-each_row.was ∙ columns w) ∙ sym (ap answer (counted w))

pub returns-in_err-each_row-2 : goal.returns-in_err-each_row-2
returns-in_err-each_row-2 c =
    let v = (goal.at.returns-in_err-each_row-2 c).After-each_row in
    let w = (goal.at.returns-in_err-each_row-2 c).After-each_row-2 in
    let f = c.in_err-each_row-2.field-0.0 in
    let e : c.from_residual-in_err-each_row-2.result ≡ Err f = search rules in
    e ∙ stops reason.Field _ _ f (sym c.in_err-each_row-2.was ∙ fields w)
    ∙ sym (ap answer (counted v ∙ passes reason.Column _ _ (sym c.in_ok-each_row.was ∙ columns v)))

pub returns : goal.returns
returns c =
    let v = (goal.at.returns c).After-each_row in
    let w = (goal.at.returns c).After-each_row-2 in
    let rows = c.args.self.now.rows.now in
    c.each_row-3.ensures (shallow (entries 0 rows)) (λ k h b t. let e : b ≡ shallow c.fill_depths.new.depths k (get_or rows k no_row) = search (rules, tests) in e ∙ ap (λ ds. shallow ds k (get_or rows k no_row)) c.fill_depths.ensures)
    ∙ sym (ap answer (counted v ∙ passes reason.Column _ _ (sym c.in_ok-each_row.was ∙ columns v) ∙ passes reason.Field _ _ (sym c.in_ok-each_row-2.was ∙ fields w)))
