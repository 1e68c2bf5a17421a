-- Which refusal a put tells.
use Rattle.std.proofs.Common.{◌≡◌, ℕ, ◌≤◌, cond, List, length, take, ◌==◌, Ok, Err, Result, sym}
use Rattle.std.proofs.Common.{refl, ap, ◌∙◌, subst}
use Rattle.std.proofs.Math.ListN.{replicate}
use Rattle.std.proofs.lemmas.Bool.{eqb-true, false_from_ne_true, eq-eqb}
use Rattle.std.proofs.lemmas.List.{length-replicate, take_at}
use Rattle.told.specs.declared.Told.{Told}
use Rattle.told.specs.Answers.{as_told, given, refused, bare}
use Rattle.cells.specs.Cells.{byte_cells}
use Rattle.cells.specs.Changed.{with_bytes}
use Rattle.sheet_text.specs.Refusals.{sheet_told}
use Rattle.sheet_text.specs.Rows.{laid, lines_of}
use Rattle.sheet_text.specs.States.{Fits}
use Rattle.sheet_text.specs.declared.refusal.Reason.{Reason}
use Rattle.sheet_text.specs.declared.row.Row.{Row}
use Rattle.sheet.proofs.Whole.{reads_so}
use Rattle.sheet.specs.Readings.{Reads, Wrong}
use Rattle.sheet.specs.Sheets.{read_of}
use Rattle.laws.proofs.Accepts.{accepts_readings}
use Rattle.laws.proofs.Rereads.{reread_decides}
use Rattle.laws.specs.Rereads.{reread}
use Rattle.listing.proofs.Wholes.{rows_read}
use Rattle.sheet_text.specs.declared.row.Column.TheVariants.{Blank}
use Rattle.sheet_text.specs.declared.word.TypeWord.TheVariants as type
use Rattle.sheet_text.specs.declared.word.Word.TheVariants as word
use Rattle.meaning.specs.Readings as readings
use Rattle.meaning.specs.Terms.{PieceSpec}
use Rattle.reading.specs.Outcomes.{or_refused, put_as, with_piece}
use Rattle.reading.specs.States.{named}
use Rattle.balskif.specs.Calls.{Refuses, Stated, itself, number_of, put_after, put_by, put_laid}
use Rattle.balskif.specs.Calls.{put_told}

module _ (text : List ℕ) where
  abbrev blank : Row
  blank = record {
    word = word.Type type.Void;
    name = Blank;
    one = Blank;
    two = Blank;
    three =
        Blank;
  }

  abbrev table : List Row
  table = replicate 256 blank

  places : length table ≡ 256
  places = length-replicate {A = Row} 256 blank

  abbrev left : List Row
  left = laid (lines_of text (length table)).rows table

  reads : Reads text table left (read_of text (length table)).result
  reads = reads_so text table left refl (read_of text (length table)).result refl

  -- the rows that a text states are those that are read
  stated_read : (rows : List Row) → Stated text rows
      → ((read_of text 256).result ≡ Ok (length rows)) × ((read_of text 256).rows ≡ rows)
  stated_read rows s =
      let fits = subst (λ k. Fits text k rows) (sym places) s.0 in
      let accepted = reads.accepts rows fits s.1 in
      let same = sym (rows_read text table left (length rows) (sym accepted) refl)
      ∙ ap (take (length rows)) (reads.all rows fits) ∙ take_at rows _ (length rows) refl in
      subst (λ k. ((read_of text k).result ≡ Ok (length rows)) × ((read_of text k).rows ≡ rows))
      places (accepted, same)

  wrong_read : (rows : List Row) (e : Reason) (n : ℕ) → Wrong text 256 rows e n
      → (read_of text 256).result ≡ Err (record { reason = e; line = n })
  wrong_read rows e n w =
      subst (λ k. (read_of text k).result ≡ Err (record { reason = e; line = n })) places
      (reads.exactly rows (record { reason = e; line = n })
      (subst (λ k. Wrong text k rows e n) (sym places) w)).0

  module _ (message : List ℕ) (room : ℕ) (path value : List ℕ) where
    -- by a reading that fits the list
    by_reading : (rows : List Row) (T : List PieceSpec) → Stated text rows
        → readings.Reads text rows (byte_cells message) T → length T ≤ room
        → put_told text message room path value
        ≡ with_piece (or_refused (bare 22) (named T path))
        (put_as text rows (byte_cells message) T value)
    by_reading rows T s r fits =
        let read = stated_read rows s in
        let cells = byte_cells message in
        ap (λ q. put_by text (read_of text 256).rows cells room (as_told sheet_told q) path value)
        read.0
        ∙ ap (λ rs. put_laid text rs cells room path value) read.1
        ∙ ap (λ m. put_after text rows cells m path value)
        ((accepts_readings text rows cells room T).1 (r, fits))

    refusing : (number : ℕ) → number ≡ number_of (put_told text message room path value)
        → Refuses text message room path value number
    refusing number is =
        let cells = byte_cells message in
        record {
          sheet = λ rows e n w. is ∙ ap
              (λ q. number_of
              (put_by text (read_of text 256).rows cells room (as_told sheet_told q) path value))
              (wrong_read rows e n w);
          nowhere = λ rows T s r fits none.
              is ∙ ap number_of (by_reading rows T s r fits)
              ∙ ap (λ o. number_of
              (with_piece (or_refused (bare 22) o) (put_as text rows cells T value))) none;
          wide = λ rows T p s r fits some differs.
              let no = false_from_ne_true (length value == p.width)
              (λ e. differs (eqb-true (length value) p.width e)) in
              is ∙ ap number_of (by_reading rows T s r fits)
              ∙ ap (λ o. number_of
              (with_piece (or_refused (bare 22) o) (put_as text rows cells T value))) some
              ∙ ap (λ b.
              number_of
              (cond b (cond (reread text rows (with_bytes cells p.place value) T) (given tt)
              (refused (bare 24))) (refused (bare 23)))) no;
          other = λ rows T p s r fits some wide unread.
              let yes = eq-eqb (length value) p.width wide in
              let no = false_from_ne_true (reread text rows (with_bytes cells p.place value) T)
              (λ e. unread ((reread_decides text rows (with_bytes cells p.place value) T).0 e))
              in
              is ∙ ap number_of (by_reading rows T s r fits)
              ∙ ap (λ o. number_of
              (with_piece (or_refused (bare 22) o) (put_as text rows cells T value))) some
              ∙ ap (λ b.
              number_of
              (cond b (cond (reread text rows (with_bytes cells p.place value) T) (given tt)
              (refused (bare 24))) (refused (bare 23)))) yes
              ∙ ap (λ b. number_of (cond b (given tt) (refused (bare 24)))) no;
        }

    pub refused_as : (r : Result (Unit {0}) Told)
        → as_told itself r ≡ put_told text message room path value
        → Refuses text message room path value (number_of (as_told itself r))
    refused_as r told = refusing (number_of (as_told itself r)) (ap number_of told)
