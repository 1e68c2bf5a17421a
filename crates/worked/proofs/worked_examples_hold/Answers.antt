use Rattle.std.proofs.Common.{◌≡◌, List, [], ◌∷◌, refl, ap}
use Rattle.cells.specs.declared.cell.Cell.{Cell}
use Rattle.cells.specs.declared.cell.Cell.TheVariants.{Byte, Lost}
use Rattle.cells.specs.Cells.{read_of}
use Rattle.layers.specs.Layers.{swapped, windowed}
use Rattle.cells.specs.Captured.{capture_cells}
use Rattle.worked.specs.Examples.{SwapOfThree, WindowOnFour, CaptureOfFour, LostUnderWindow}
use Rattle.worked.specs.Examples.{CutPair}
use Rattle.worked.proofs.Layings.{sheets, two_points, lost_count, list_of_two, cut_point}
use Rattle.worked.proofs.Layings.{empty_records, void_opened, above_limit, count_in_both_versions}
use Rattle.worked.proofs.Layings.{count_behind_array, own_counts}
use Rattle.worked.proofs.Puttings.{puts_to_points}
use Rattle.worked.proofs.Listings.{points_listed}
use Rattle.worked.proofs.worked_examples_hold.Goals as goal

swaps : SwapOfThree
unfolding swapped
swaps = refl

windows : WindowOnFour
unfolding windowed
windows a b c d = refl

captures : CaptureOfFour
unfolding capture_cells
captures = refl

loses : LostUnderWindow
unfolding windowed
loses cells e =
    let these : List Cell = Byte 170 ∷ Lost (record { place = 1; layers = 0 }) ∷ Byte 255 ∷ Byte 236
    ∷ [] in
    let opened-as = captures in
    let same : cells ≡ these = cc in
    ap (λ cs. read_of (windowed 1 3 cs) 0) same

cuts : CutPair
cuts = refl

pub returns : goal.returns
returns c = record {
  swap_of_three = swaps;
  window_on_four = windows;
  capture_of_four = captures;
  lost_under_window = loses;
  cut_pair = cuts;
  sheets_accepted = sheets;
  two_points = two_points;
  lost_count = lost_count;
  list_of_two = list_of_two;
  cut_point = cut_point;
  empty_records = empty_records;
  void_opened = void_opened;
  above_limit = above_limit;
  count_in_both_versions = count_in_both_versions;
  count_behind_array = count_behind_array;
  own_counts = own_counts;
  puts_to_points = puts_to_points;
  points_listed = points_listed;
}
