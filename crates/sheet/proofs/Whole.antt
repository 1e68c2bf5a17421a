-- From the rows that were read to the sheet.
use Rattle.std.proofs.Common.{◌≡◌, ℕ, not, List, length, take, is_some, IfOk, Some, None, Ok, Err, Option, Result, sym, refl, ap, ◌∙◌, subst, inl, inr, ⊎_elim, arith}
use Rattle.std.proofs.lemmas.List.{take_at}
use Rattle.sheet_text.specs.Rows.{lines_of, laid}
use Rattle.sheet_text.specs.States.{States, Fits}
use Rattle.sheet_text.specs.declared.refusal.SheetRefusal.{SheetRefusal}
use Rattle.sheet_text.specs.declared.row.Row.{Row}
use Rattle.sheet_text.proofs.Counts.{read_counts}
use Rattle.sheet_text.proofs.Stated.{front_stated, read_fits, stated_read}
use Rattle.sheet_text.proofs.LineFaults.{lines_refused, refused_so}
use Rattle.sheet.specs.Keeps.{Keeps}
use Rattle.sheet.specs.Readings.{Judges, Wrong, Reads}
use Rattle.sheet.specs.Sheets.{after, read_of}
use Rattle.sheet.specs.Verdict.{verdict, answer}
use Rattle.sheet.proofs.Keeping.{keeps, no_verdict}
use Rattle.sheet.proofs.Refusals.{refused, refuses_so}

-- the first places of the table, as many as the answer says, hold the rows
pub front : (text : List ℕ) (table : List Row) (n : ℕ) → (lines_of text (length table)).result ≡ Ok n → take n (laid (lines_of text (length table)).rows table) ≡ (lines_of text (length table)).rows
front text table n e =
    let c = read_counts text (length table) n e in
    take_at (lines_of text (length table)).rows _ n (omega arith)

pub accepted : (o : Option SheetRefusal) → answer o ≡ Ok tt → o ≡ None
accepted None e = refl
accepted (Some f) e = let z : ◌≡◌ {A = ℕ} 0 1 = cc in absurd (omega arith)

pub denied : (o : Option SheetRefusal) (f : SheetRefusal) → answer o ≡ Err f → o ≡ Some f
denied None f e = let z : ◌≡◌ {A = ℕ} 0 1 = cc in absurd (omega arith)
denied (Some g) f e = cc

-- an accepted reading: the lines were read, and the rows have no fault
taken_apart : (r : Result ℕ SheetRefusal) (v : Option SheetRefusal) (n : ℕ) → after r v ≡ Ok n → (r ≡ Ok n) × (v ≡ None)
taken_apart (Ok m) None n e = (e, refl)
taken_apart (Ok m) (Some f) n e = let z : ◌≡◌ {A = ℕ} 0 1 = cc in absurd (omega arith)
taken_apart (Err f) v n e = let z : ◌≡◌ {A = ℕ} 0 1 = cc in absurd (omega arith)

module _ (text : List ℕ) (table left : List Row) (rows_are : left ≡ laid (read_of text (length table)).rows table) where
  read_well : (n : ℕ) → (read_of text (length table)).result ≡ Ok n → Keeps text (take n left)
  read_well n e =
      let p = taken_apart (lines_of text (length table)).result (verdict text (lines_of text (length table)).rows) n e in
      let c = read_counts text (length table) n p.0 in
      let same : take n left ≡ (lines_of text (length table)).rows = ap (take n) rows_are ∙ take_at (lines_of text (length table)).rows _ n (omega arith) in
      subst (Keeps text) (sym same) (keeps text _ (ap (λ o. not (is_some o)) p.1))

  accepted_keeps : (r : Result ℕ SheetRefusal) → r ≡ (read_of text (length table)).result → IfOk r (λ n. Keeps text (take n left))
  accepted_keeps (Ok n) e = read_well n (sym e)
  accepted_keeps (Err f) e = tt

  accepted_stated : (r : Result ℕ SheetRefusal) → r ≡ (read_of text (length table)).result → IfOk r (λ n. States text (take n left))
  accepted_stated (Ok n) e =
      front_stated text table left rows_are n (taken_apart (lines_of text (length table)).result (verdict text (lines_of text (length table)).rows) n (sym e)).0
  accepted_stated (Err f) e = tt

  -- the answer of a reading, and what it leaves
  pub reads_so : (r : Result ℕ SheetRefusal) → r ≡ (read_of text (length table)).result → Reads text table left r
  reads_so r e = record {
    stated = accepted_stated r e;
    keeps = accepted_keeps r e;
    all = λ rows fit. rows_are ∙ ap (λ d. laid d.rows table) (stated_read text (length table) rows fit);
    accepts = λ rows fit kept. e ∙ judged_as rows fit ∙ ap (after (Ok (length rows))) (no_verdict text rows kept);
    refuses = λ f is. ((lines_of text (length table)).rows, (rows_are, wrong _ _ f refl refl (sym e ∙ is)));
    exactly = λ rows f h. ⊎_elim
        (λ l. given rows (Err f) f (refused_so text (length table) f.line rows f.reason l) refl)
        (λ w. given rows (Ok (length rows)) f (stated_read text (length table) rows w.0) (ap (after (Ok (length rows))) (refuses_so text rows f.reason f.line w.1)))
        h;
  }
    where
      given : (rows : List Row) (o : Result ℕ SheetRefusal) (f : SheetRefusal) → lines_of text (length table) ≡ record { rows = rows; result = o } → after o (verdict text rows) ≡ Err f → (r ≡ Err f) × (left ≡ laid rows table)
      given rows o f is h = (e ∙ ap (λ d. after d.result (verdict text d.rows)) is ∙ h, rows_are ∙ ap (λ d. laid d.rows table) is)

      judged_as : (rows : List Row) → Fits text (length table) rows → (read_of text (length table)).result ≡ after (Ok (length rows)) (verdict text rows)
      judged_as rows fit = ap (λ d. after d.result (verdict text d.rows)) (stated_read text (length table) rows fit)

      wrong : (o : Result ℕ SheetRefusal) (v : Option SheetRefusal) (f : SheetRefusal) → (lines_of text (length table)).result ≡ o → verdict text (lines_of text (length table)).rows ≡ v → after o v ≡ Err f → Wrong text (length table) (lines_of text (length table)).rows f.reason f.line
      wrong (Err g) v f is w h = inl (lines_refused text (length table) f (is ∙ h))
      wrong (Ok n) None f is w h = let z : ◌≡◌ {A = ℕ} 0 1 = cc in absurd (omega arith)
      wrong (Ok n) (Some g) f is w h =
          let same : g ≡ f = cc in
          inr (read_fits text (length table) n is, refused text (lines_of text (length table)).rows f (w ∙ ap Some same))

-- the answer about rows, and the rules
pub judged : (text : List ℕ) (rows : List Row) (r : Result (Unit {0}) SheetRefusal) → r ≡ answer (verdict text rows) → Judges text rows r
judged text rows r e = record {
  keeps = λ ok. keeps text rows (ap (λ o. not (is_some o)) (accepted (verdict text rows) (sym e ∙ ok)));
  accepts = λ kept. e ∙ ap answer (no_verdict text rows kept);
  refuses = λ f is. refused text rows f (denied (verdict text rows) f (sym e ∙ is));
  exactly = λ f h. e ∙ ap answer (refuses_so text rows f.reason f.line h);
}
