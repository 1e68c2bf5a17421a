-- The examples of putting, by computing.
use Rattle.std.proofs.Common.{refl}
use Rattle.std.specs.Fmt.{digits}
use Rattle.cells.specs.Captured.{capture_cells}
use Rattle.sheet_text.specs.Lines.{part_at}
use Rattle.sheet_text.specs.Rows.{row_at, lines_from}
use Rattle.sheet.specs.Verdict.{verdict}
use Rattle.sheet.specs.Depths.{entries}
use Rattle.sheet.specs.Fields.{chain_names}
use Rattle.meaning.specs.Stands.{number_at, steps_at, truth_at, type_at, fields_at}
use Rattle.worked.specs.Puttings.{PutsToPoints}

pub puts_to_points : PutsToPoints
unfolding capture_cells part_at row_at lines_from verdict entries chain_names number_at steps_at truth_at type_at fields_at digits
puts_to_points = (refl, refl, refl, refl, refl)
