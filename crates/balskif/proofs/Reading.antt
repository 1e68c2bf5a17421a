-- Reading a text as a sheet.
use Rattle.std.proofs.Common.{◌≡◌, ℕ, ◌≤◌, true, not, is_some, if◌then◌else◌, List, length, take}
use Rattle.std.proofs.Common.{Ok, Err, Result, sym, refl, ap, ◌∙◌, subst, arith}
use Rattle.std.proofs.lemmas.Bool.{cond-true}
use Rattle.std.proofs.lemmas.List.{take_at}
use Rattle.told.specs.Answers.{given, as_told}
use Rattle.sheet_text.specs.Refusals.{sheet_told}
use Rattle.sheet_text.specs.Refusals as sheet
use Rattle.sheet_text.specs.Rows.{laid}
use Rattle.sheet_text.specs.States.{Fits}
use Rattle.sheet_text.specs.declared.refusal.Reason.{Reason}
use Rattle.sheet_text.specs.declared.refusal.Reason.TheVariants as reason
use Rattle.sheet_text.specs.declared.refusal.SheetRefusal.{SheetRefusal}
use Rattle.sheet_text.specs.declared.row.Row.{Row}
use Rattle.sheet.specs.Readings.{Reads, Wrong}
use Rattle.sheet.specs.Sheets.{read_of, rows_of, text_of}
use Rattle.sheet.specs.declared.checked.CheckedSheet.{CheckedSheet}
use Rattle.sheet.specs.Verdict.{answer, lawful, verdict}
use Rattle.sheet.proofs.Whole.{accepted}
use Rattle.listing.proofs.Wholes.{rows_read}
use Rattle.balskif.specs.Calls.{Checks, Stated}
use Rattle.balskif.specs.Sheets.{IsSheet, SheetChecked}
use Rattle.meaning.specs.Bars.{places, only}

-- no refusal of a sheet has the number 0
pub some_number : (e : Reason) → ¬ (sheet.number_of e ≡ 0)
some_number reason.Header z = absurd (omega (arith, z))
some_number reason.Line z = absurd (omega (arith, z))
some_number reason.Word z = absurd (omega (arith, z))
some_number reason.Column z = absurd (omega (arith, z))
some_number reason.Field z = absurd (omega (arith, z))
some_number reason.Count z = absurd (omega (arith, z))
some_number reason.Depth z = absurd (omega (arith, z))

-- rows that the check of a sheet accepts keep every rule
accepted_lawful : (text : List ℕ) (rows : List Row) (u : Unit {0})
    → Ok u ≡ answer (verdict text rows) → lawful text rows ≡ true
accepted_lawful text rows u e = ap (λ o. not (is_some o)) (accepted (verdict text rows) (sym e))

-- what they alter
pub fill_is : {X : Type 0} (text : List ℕ) (rows : List Row) (u : Unit {0}) (x y z : X)
    → Ok u ≡ answer (verdict text rows) → z ≡ (if lawful text rows then x else y) → z ≡ x
fill_is text rows u x y z e is = is
    ∙ cond-true (lawful text rows) x y (accepted_lawful text rows u e)

module _ (text : List ℕ) (table left : List Row) (places : length table ≡ 256) where
  -- an accepted text: the first rows of the table are the rows that it states, and it states no
  -- others
  module _ (n : ℕ) (reads : Reads text table left (Ok n)) where
    counted : length (take n left) ≤ 256
    counted = reads.keeps.few

    pub stated : Stated text (take n left)
    stated = (record { stated = reads.stated; room = counted; few = counted }, reads.keeps)

    count_is : n ≡ length (take n left)
    count_is =
        let fits : Fits text (length table) (take n left) =
        subst (λ k. Fits text k (take n left)) (sym places) stated.0 in
        let count : ◌≡◌ {A = Result ℕ SheetRefusal} (Ok n) (Ok (length (take n left))) =
        reads.accepts (take n left) fits reads.keeps in cc

    pub no_others : (rows : List Row) → Stated text rows → rows ≡ take n left
    no_others rows s =
        let fits : Fits text (length table) rows = subst (λ k. Fits text k rows) (sym places) s.0 in
        let all : left ≡ laid rows table = reads.all rows fits in
        let count : ◌≡◌ {A = Result ℕ SheetRefusal} (Ok n) (Ok (length rows)) =
        reads.accepts rows fits s.1 in
        let same : length rows ≡ n = cc in
        sym (ap (take n) all ∙ take_at rows _ n same)

    wrong_refused : (rows : List Row) (e : Reason) (k : ℕ) → Wrong text 256 rows e k → ⊥
    wrong_refused rows e k w =
        let other : ◌≡◌ {A = Result ℕ SheetRefusal} (Ok n) (Err (record { reason = e; line = k }))
        = (reads.exactly rows (record { reason = e; line = k })
        (subst (λ m. Wrong text m rows e k) (sym places) w)).0 in
        let z : ◌≡◌ {A = ℕ} 0 1 = cc in absurd (omega arith)

    checks_ok : Checks text 0 0
    checks_ok = record {
      accepts = λ rows s. refl;
      states = λ z. ((take n left, stated), refl);
      refuses = λ rows e k w. absurd (wrong_refused rows e k w);
      faults = λ f. absurd (f refl);
    }

    pub sheet_is : Ok n ≡ (read_of text (length table)).result
        → left ≡ laid (read_of text (length table)).rows table
        → (s : CheckedSheet) → text_of s ≡ text → rows_of s ≡ take n left → IsSheet text s
    sheet_is result rows s of-text of-rows =
        let read : take n left ≡ (read_of text (length table)).rows =
        rows_read text table left n result rows in
        let here : rows_of s ≡ (read_of text 256).rows = of-rows ∙ read
        ∙ ap (λ k. (read_of text k).rows) places in
        let long : n ≡ length (rows_of s) = count_is ∙ ap length (sym of-rows) in
        record {
          text_is = of-text;
          rows_are = here;
          answer = ap (λ k. as_told sheet_told (read_of text k).result) (sym places)
              ∙ ap (as_told sheet_told) (sym result) ∙ ap given long;
          stated = subst (Stated text) (sym of-rows) stated;
          only = λ rows s. no_others rows s ∙ sym of-rows;
        }

  module _ (x : SheetRefusal) (reads : Reads text table left (Err x)) where
    checks_err : Checks text (sheet.number_of x.reason) x.line
    checks_err = record {
      accepts = λ rows s.
          let fits : Fits text (length table) rows =
          subst (λ k. Fits text k rows) (sym places) s.0 in
          let other : ◌≡◌ {A = Result ℕ SheetRefusal} (Err x) (Ok (length rows)) =
          reads.accepts rows fits s.1 in
          let z : ◌≡◌ {A = ℕ} 0 1 = cc in absurd (omega arith);
      states = λ z. absurd (some_number x.reason z);
      refuses = λ rows e k w.
          let same : ◌≡◌ {A = Result ℕ SheetRefusal} (Err x) (Err (record { reason = e; line = k }))
          = (reads.exactly rows (record { reason = e; line = k })
          (subst (λ m. Wrong text m rows e k) (sym places) w)).0 in
          let here : ◌≡◌ {A = SheetRefusal} x (record { reason = e; line = k }) = cc in (
            ap (λ (y : SheetRefusal). sheet.number_of y.reason) here,
            ap
                (λ (y : SheetRefusal). y.line) here,
          );
      faults = λ f.
          let w = reads.refuses x refl in
          (w.0, (x.reason, (subst (λ m. Wrong text m w.0 x.reason x.line) places w.1.1, refl)));
    }

  pub checked_is : (r : Result ℕ SheetRefusal) → Reads text table left r → SheetChecked text r
  checked_is (Ok n) reads = checks_ok n reads
  checked_is (Err x) reads = checks_err x reads
