-- The whole text by the parts of the input, and by what laying answers.
use Rattle.std.proofs.Common.{◌≡◌, ℕ, List, length, take, Some, None, Option, Ok, Err, Result, sym}
use Rattle.std.proofs.Common.{ap, ◌∙◌, arith}
use Rattle.told.specs.Answers.{given, refused, as_told}
use Rattle.told.specs.declared.Told.{Told}
use Rattle.cells.specs.declared.cell.Cell.{Cell}
use Rattle.cells.specs.Captured.{opened, opened_by}
use Rattle.sheet_text.specs.Refusals.{sheet_told}
use Rattle.sheet_text.specs.Rows.{laid as laid_rows, lines_of as lines_of_text}
use Rattle.sheet_text.specs.declared.refusal.SheetRefusal.{SheetRefusal}
use Rattle.sheet_text.specs.declared.row.Row.{Row}
use Rattle.sheet.specs.Sheets.{after, read_of}
use Rattle.sheet.specs.Verdict.{verdict}
use Rattle.sheet.proofs.Whole.{front}
use Rattle.input.specs.Parts.{sheet_text, capture_text}
use Rattle.meaning.specs.Matcher.{Laid, accepted}
use Rattle.meaning.specs.Matcher
use Rattle.meaning.specs.Refusals.{fault_told, reached}
use Rattle.meaning.specs.Laying.{laid_told}
use Rattle.meaning.specs.Terms.{PieceSpec, total}
use Rattle.reading.specs.Outcomes.{pieces_in}
use Rattle.listing.specs.Lines.{fault, laid, left, left_by, left_of, lines_of, of_laying}
use Rattle.listing.specs.Lines.{of_message, outcome, outcome_of, whole_text, listing}
use Rattle.meaning.specs.Bars.{places}

-- a refusal of laying is told as it stands
pub refused_is : (rows : List Row) (cells : List Cell) (m : Laid) (t : Told)
    → refused t ≡ laid_told m → of_laying rows cells m ≡ fault t
refused_is rows cells (accepted T) t e = let z : ◌≡◌ {A = ℕ} 0 1 = cc in absurd (omega arith)
refused_is rows cells (Matcher.refused f r A) t e = let same : t ≡ reached r A (fault_told f) =
    cc in ap fault (sym same)

-- and the pieces of an accepted one
pub given_is : (rows : List Row) (cells : List Cell) (m : Laid) (n w : ℕ)
    → given (n, w) ≡ laid_told m → of_laying rows cells m ≡ laid rows cells (pieces_in m) w
given_is rows cells (accepted T) n w e = let q : ◌≡◌ {A = ℕ × ℕ} (n, w) (length T, total T) = cc in
    let same : w ≡ total T = ap (λ x. x.1) q in ap (laid rows cells T) (sym same)
given_is rows cells (Matcher.refused f r A) n w e = let z : ◌≡◌ {A = ℕ} 0 1 = cc in
    absurd (omega arith)

-- a capture that opens has its own cells
pub opened_cells : (o : Option ℕ) (cs ds : List Cell) → given ds ≡ opened_by o cs → ds ≡ cs
opened_cells None cs ds e = cc
opened_cells (Some p) cs ds e = let z : ◌≡◌ {A = ℕ} 0 1 = cc in absurd (omega arith)

lines_accepted : (r : Result ℕ SheetRefusal) (v : Option SheetRefusal) (n : ℕ) → after r v ≡ Ok n
    → r ≡ Ok n
lines_accepted (Ok m) None n e = e
lines_accepted (Ok m) (Some f) n e = let z : ◌≡◌ {A = ℕ} 0 1 = cc in absurd (omega arith)
lines_accepted (Err f) v n e = e

-- the rows that were read into a table
pub rows_read : (text : List ℕ) (table left : List Row) (n : ℕ)
    → Ok n ≡ (read_of text (length table)).result
    → left ≡ laid_rows (read_of text (length table)).rows table
    → take n left ≡ (read_of text (length table)).rows
rows_read text table left n e l =
    let read = lines_of_text text (length table) in
    ap (take n) l ∙ front text table n
    (lines_accepted read.result (verdict text read.rows) n (sym e))

module _ (places room : ℕ) (sheet capture : List ℕ) where
  pub accepted_is : (n : ℕ) → Ok n ≡ (read_of sheet places).result
      → of_message sheet (read_of sheet places).rows room (opened capture)
      ≡ outcome places room sheet capture
  accepted_is n e =
      ap (λ r. outcome_of sheet (read_of sheet places).rows room (as_told sheet_told r)
      (opened capture)) e

  pub sheet_refused : (f : SheetRefusal) → Err f ≡ (read_of sheet places).result
      → fault (sheet_told f) ≡ outcome places room sheet capture
  sheet_refused f e =
      ap (λ r. outcome_of sheet (read_of sheet places).rows room (as_told sheet_told r)
      (opened capture)) e

-- what is left in the piece list
module _ (places room : ℕ) (entries : List PieceSpec) (sheet capture : List ℕ) where
  pub left_accepted : (n : ℕ) → Ok n ≡ (read_of sheet places).result
      → left_by sheet (read_of sheet places).rows room entries (opened capture)
      ≡ left places room entries sheet capture
  left_accepted n e =
      ap (λ r. left_of sheet (read_of sheet places).rows room entries (as_told sheet_told r)
      (opened capture)) e

  pub left_refused : (f : SheetRefusal) → Err f ≡ (read_of sheet places).result
      → entries ≡ left places room entries sheet capture
  left_refused f e =
      ap (λ r. left_of sheet (read_of sheet places).rows room entries (as_told sheet_told r)
      (opened capture)) e

pub left_is : (places room : ℕ) (entries : List PieceSpec) (bs sheet capture : List ℕ)
    → sheet ≡ sheet_text bs → capture ≡ capture_text bs
    → left places room entries sheet capture
    ≡ left places room entries (sheet_text bs) (capture_text bs)
left_is places room entries bs sheet capture cut cut-too =
    ap (λ t. left places room entries t capture) cut
    ∙ ap (λ t. left places room entries (sheet_text bs) t) cut-too

-- the two texts of an input
module _ (places room : ℕ) (bs sheet capture : List ℕ) (cut : sheet ≡ sheet_text bs)
    (cut-too : capture ≡ capture_text bs) where
  pub whole_is : whole_text (lines_of (outcome places room sheet capture)) ≡ listing places room bs
  unfolding listing
  whole_is = ap (λ t. whole_text (lines_of (outcome places room t capture))) cut
      ∙ ap (λ t. whole_text (lines_of (outcome places room (sheet_text bs) t))) cut-too
