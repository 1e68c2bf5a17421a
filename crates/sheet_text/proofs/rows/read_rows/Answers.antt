use Rattle.std.proofs.Common.{◌≡◌, false, cond, eqb, length, take, Err, sym, ap, rules}
use Rattle.sheet_text.specs.Rows.{header, headed, refused, further_lines, lines_of, laid}
use Rattle.std.proofs.lemmas.Bool.{both_ways, false_from_ne_true}
use Rattle.std.proofs.lemmas.Slice.Eq.{bytes_eq-Decides}
use Rattle.told.specs.Answers.{as_told}
use Rattle.sheet_text.specs.Refusals.{sheet_told}
use Rattle.sheet_text.specs.declared.refusal.Reason.TheVariants as reason
use Rattle.sheet_text.proofs.LineFaults.{reads_so}
use Rattle.sheet_text.proofs.rows.read_rows.Goals as goal

pub returns-then-is_empty-clause-reads : goal.returns-then-is_empty-clause-reads
returns-then-is_empty-clause-reads c =
    let text = c.args.text.now in
    let table = c.args.table.now in
    let rows : table ≡ laid (lines_of text (length table)).rows table = search rules in
    let is : Err (record { reason = reason.Count; line = 1 }) ≡ (lines_of text (length table)).result = search rules in
    reads_so text table table rows _ is

pub returns-clause-reads : goal.returns-clause-reads
returns-clause-reads c =
    let text = c.args.text.now in
    let table = c.args.table.now in
    let rows : c.read_lines.new.table ≡ laid (lines_of text (length table)).rows table = search rules in
    let is : c.read_lines.result ≡ (lines_of text (length table)).result = search rules in
    reads_so text table c.read_lines.new.table rows _ is

pub returns-in_default : goal.returns-in_default
returns-in_default c =
    let text = c.args.text.now in
    let table = c.args.table.now in
    let off : headed text ≡ false =
    false_from_ne_true (headed text) (λ t. both_ways _ c.in_default.ensures.cases ((bytes_eq-Decides (take 28 text) header).1 (sym ((bytes_eq-Decides header (take 28 text)).0 t)))) in
    let read = ap (λ t. cond t (cond (eqb (length text) 28) (refused reason.Count 1) (further_lines text (length table))) (refused reason.Header 1)) off in
    let is : Err (record { reason = reason.Header; line = 1 }) ≡ (lines_of text (length table)).result = sym (ap (λ r. r.result) read) in
    let rows : table ≡ laid (lines_of text (length table)).rows table = sym (ap (λ r. laid r.rows table) read) in
    record {
      told = ap (as_told sheet_told) is;
      result = is;
      rows = rows;
      within = tt;
      reads = reads_so text table table rows _ is;
    }
