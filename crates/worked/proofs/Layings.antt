-- The examples of laying, by computing.
use Rattle.std.proofs.Common.{refl}
use Rattle.cells.specs.Captured.{capture_cells}
use Rattle.sheet_text.specs.Lines.{part_at}
use Rattle.sheet_text.specs.Rows.{row_at, lines_from}
use Rattle.sheet.specs.Verdict.{verdict}
use Rattle.sheet.specs.Depths.{entries}
use Rattle.sheet.specs.Fields.{chain_names}
use Rattle.meaning.specs.Stands.{number_at, steps_at, truth_at, type_at, fields_at}
use Rattle.worked.specs.Layings.{SheetsAccepted, TwoPoints, LostCount, ListOfTwo, CutPoint, EmptyRecords, VoidOpened, AboveLimit, CountInBothVersions, CountBehindArray, OwnCounts}

pub sheets : SheetsAccepted
unfolding capture_cells part_at row_at lines_from verdict entries chain_names number_at steps_at truth_at type_at fields_at
sheets = record { points = refl; empty = refl; empties = refl; too_many_empties = refl; nothing = refl; then_nothing = refl; above = refl; above_or = refl; two_versions = refl; count_behind = refl; own_counts = refl }

pub two_points : TwoPoints
unfolding capture_cells part_at row_at lines_from verdict entries chain_names number_at steps_at truth_at type_at fields_at
two_points = (refl, refl)

pub lost_count : LostCount
unfolding capture_cells part_at row_at lines_from verdict entries chain_names number_at steps_at truth_at type_at fields_at
lost_count = refl

pub list_of_two : ListOfTwo
unfolding capture_cells part_at row_at lines_from verdict entries chain_names number_at steps_at truth_at type_at fields_at
list_of_two = refl

pub cut_point : CutPoint
unfolding capture_cells part_at row_at lines_from verdict entries chain_names number_at steps_at truth_at type_at fields_at
cut_point = (refl, refl)

pub empty_records : EmptyRecords
unfolding capture_cells part_at row_at lines_from verdict entries chain_names number_at steps_at truth_at type_at fields_at
empty_records = (refl, refl, refl)

pub void_opened : VoidOpened
unfolding capture_cells part_at row_at lines_from verdict entries chain_names number_at steps_at truth_at type_at fields_at
void_opened = (refl, refl)

pub above_limit : AboveLimit
unfolding capture_cells part_at row_at lines_from verdict entries chain_names number_at steps_at truth_at type_at fields_at
above_limit = (refl, refl)

pub count_in_both_versions : CountInBothVersions
unfolding capture_cells part_at row_at lines_from verdict entries chain_names number_at steps_at truth_at type_at fields_at
count_in_both_versions = (refl, refl)

pub count_behind_array : CountBehindArray
unfolding capture_cells part_at row_at lines_from verdict entries chain_names number_at steps_at truth_at type_at fields_at
count_behind_array = refl

pub own_counts : OwnCounts
unfolding capture_cells part_at row_at lines_from verdict entries chain_names number_at steps_at truth_at type_at fields_at
own_counts = refl
