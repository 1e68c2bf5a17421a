-- The worked examples.
use Rattle.std.specs.Prelude.{◌≡◌, ℕ, List, [], ◌∷◌, length, codes}
use Rattle.told.specs.Answers.{given, refused}
use Rattle.cells.specs.declared.cell.Mark.{Mark}
use Rattle.cells.specs.declared.cell.Cell.{Cell}
use Rattle.cells.specs.declared.cell.Cell.TheVariants.{Byte, Lost}
use Rattle.cells.specs.Cells.{read_of}
use Rattle.layers.specs.Layers.{swapped, windowed}
use Rattle.cells.specs.Captured.{opened}
use Rattle.cells.specs.Refusals.{bad_pair, lost_cell}
use Rattle.worked.specs.Layings.{SheetsAccepted, TwoPoints, LostCount, ListOfTwo, CutPoint}
use Rattle.worked.specs.Layings.{EmptyRecords, VoidOpened, AboveLimit, CountInBothVersions}
use Rattle.worked.specs.Layings.{CountBehindArray, OwnCounts}
use Rattle.worked.specs.Puttings.{PutsToPoints}
use Rattle.worked.specs.Listings.{PointsListed}

abbrev mark : ℕ → ℕ → Mark
mark place layers = record { place = place; layers = layers }

-- the swap of 01 02 03 is 02 01 03
abbrev pub SwapOfThree : Type 0
SwapOfThree = swapped (Byte 1 ∷ Byte 2 ∷ Byte 3 ∷ []) ≡ Byte 2 ∷ Byte 1 ∷ Byte 3 ∷ []

-- a window (2, 5) on four cells has two
abbrev pub WindowOnFour : Type 0
WindowOnFour = (a b c d : Cell) → length (windowed 2 5 (a ∷ b ∷ c ∷ d ∷ [])) ≡ 2

-- the capture `aa--ffec`
abbrev pub CaptureOfFour : Type 0
CaptureOfFour = opened (codes "aa--ffec")
    ≡ given (Byte 170 ∷ Lost (mark 1 0) ∷ Byte 255 ∷ Byte 236 ∷ [])

-- under a window (1, 3) its lost cell is refused with lost place 1 and layers 1
abbrev pub LostUnderWindow : Type 0
LostUnderWindow = (cells : List Cell) → opened (codes "aa--ffec") ≡ given cells
    → read_of (windowed 1 3 cells) 0 ≡ refused (lost_cell (mark 1 1))

-- `00f` is refused at 2
abbrev pub CutPair : Type 0
CutPair = opened (codes "00f") ≡ refused (bad_pair 2)

pub record Examples : Type 0 where
  pub swap_of_three : SwapOfThree
  pub window_on_four : WindowOnFour
  pub capture_of_four : CaptureOfFour
  pub lost_under_window : LostUnderWindow
  pub cut_pair : CutPair
  pub sheets_accepted : SheetsAccepted
  pub two_points : TwoPoints
  pub lost_count : LostCount
  pub list_of_two : ListOfTwo
  pub cut_point : CutPoint
  pub empty_records : EmptyRecords
  pub void_opened : VoidOpened
  pub above_limit : AboveLimit
  pub count_in_both_versions : CountInBothVersions
  pub count_behind_array : CountBehindArray
  pub own_counts : OwnCounts
  pub puts_to_points : PutsToPoints
  pub points_listed : PointsListed
