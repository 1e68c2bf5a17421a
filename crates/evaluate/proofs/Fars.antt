-- How far out the locations of a row start, by its word.
use Rattle.std.proofs.Common.{◌≡◌, ℕ, true, Some, None, sym, ap, ◌∙◌}
use Rattle.sheet.specs.Sheets.{rows_of, text_of}
use Rattle.sheet.specs.declared.checked.CheckedSheet.{CheckedSheet}
use Rattle.sheet_text.specs.declared.row.Row.{Row}
use Rattle.sheet.specs.Checks.{row_at}
use Rattle.meaning.specs.Stands.{number_at, steps_at, truth_at}
use Rattle.laws.specs.Quiet.{far, far_steps, far_truth}
use Rattle.laws.proofs.Checked.{checked_forward}
use Rattle.laws.proofs.Unfold.{number_unfolds, steps_unfold, steps_end, truth_unfolds}
use Rattle.evaluate.specs.Fars.{far_number_row, far_steps_row, far_truth_row}

module _ (s : CheckedSheet) (k row : ℕ) (r : Row) (e : r ≡ row_at (rows_of s) row) where
  pub far_number_at : far_number_row s k r ≡ far k (number_at (text_of s) (rows_of s) row)
  far_number_at = ap (far_number_row s k) e
      ∙ sym (ap (far k)
      (number_unfolds (text_of s) (rows_of s) (checked_forward (text_of s) (rows_of s) s.ok) row))

  pub far_steps_at : far_steps_row s k r ≡ far_steps k (steps_at (text_of s) (rows_of s) (Some row))
  far_steps_at = ap (far_steps_row s k) e
      ∙ sym (ap (far_steps k)
      (steps_unfold (text_of s) (rows_of s) (checked_forward (text_of s) (rows_of s) s.ok) row))

  pub far_truth_at : far_truth_row s k r ≡ far_truth k (truth_at (text_of s) (rows_of s) row)
  far_truth_at = ap (far_truth_row s k) e
      ∙ sym (ap (far_truth k)
      (truth_unfolds (text_of s) (rows_of s) (checked_forward (text_of s) (rows_of s) s.ok) row))

pub far_end : (s : CheckedSheet) (k : ℕ)
    → true ≡ far_steps k (steps_at (text_of s) (rows_of s) None)
far_end s k =
    sym (ap (far_steps k)
    (steps_end (text_of s) (rows_of s) (checked_forward (text_of s) (rows_of s) s.ok)))
