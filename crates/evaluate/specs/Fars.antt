-- How far out the location of a `from` row starts.
use Rattle.std.specs.Prelude.{ℕ, Bool, true, ◌&&◌, nat_le}
use Rattle.sheet.specs.Sheets.{rows_of, text_of}
use Rattle.sheet.specs.declared.checked.CheckedSheet.{CheckedSheet}
use Rattle.sheet_text.specs.declared.row.Row.{Row}
use Rattle.meaning.specs.Terms.{Steps}
use Rattle.meaning.specs.Stands.{from_at, steps_at}
use Rattle.laws.specs.Quiet.{far, far_steps, far_truth}
use Rattle.laws.specs.Unfolds.{number_of, steps_of, truth_of}

module _ (s : CheckedSheet) (k : ℕ) where
  -- whether a location climbs at least k, and those in its steps do
  abbrev pub far_place : ℕ → Steps → Bool
  far_place c q = nat_le k c && far_steps k q

  -- whether that of a `from` row does
  abbrev pub far_from : ℕ → Bool
  far_from r = from_at (text_of s) (rows_of s) r (steps_at (text_of s) (rows_of s)) far_place true

  -- the same of other rows in hand
  abbrev pub far_number_row : Row → Bool
  far_number_row r = far k (number_of (text_of s) (rows_of s) r)

  abbrev pub far_steps_row : Row → Bool
  far_steps_row r = far_steps k (steps_of (text_of s) (rows_of s) r)

  abbrev pub far_truth_row : Row → Bool
  far_truth_row r = far_truth k (truth_of (text_of s) (rows_of s) r)
