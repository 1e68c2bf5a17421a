-- The examples of the lister, by computing.
use Rattle.std.proofs.Common.{refl}
use Rattle.std.specs.Fmt.{digits}
use Rattle.cells.specs.Captured.{capture_cells}
use Rattle.input.specs.Parts.{limited, sheet_text, capture_text}
use Rattle.sheet_text.specs.Lines.{part_at}
use Rattle.sheet_text.specs.Rows.{row_at, lines_from}
use Rattle.sheet.specs.Verdict.{verdict}
use Rattle.sheet.specs.Depths.{entries}
use Rattle.sheet.specs.Fields.{chain_names}
use Rattle.meaning.specs.Stands.{number_at, steps_at, truth_at, type_at, fields_at}
use Rattle.listing.specs.Lines.{listing}
use Rattle.worked.specs.Listings.{PointsListed}

pub points_listed : PointsListed
unfolding listing limited sheet_text capture_text capture_cells part_at row_at lines_from verdict
    entries chain_names number_at steps_at truth_at type_at fields_at digits
points_listed = (refl, refl)
