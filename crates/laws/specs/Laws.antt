-- What is true of readings, for every sheet and every message.
use Rattle.std.specs.Prelude.{◌≡◌, ℕ, ◌<◌, ◌≤◌, true, ◌↔◌, List, ◌++◌, length, take}
use Rattle.cells.specs.declared.cell.Cell.{Cell}
use Rattle.sheet.specs.Checks.{word_at}
use Rattle.sheet.specs.Rules.{family_of}
use Rattle.sheet.specs.Verdict.{lawful}
use Rattle.sheet.specs.declared.rule.Family.TheVariants as family
use Rattle.sheet_text.specs.declared.row.Row.{Row}
use Rattle.meaning.specs.Terms.{PieceSpec, total}
use Rattle.meaning.specs.Stands.{type_at}
use Rattle.meaning.specs.declared.fault.LayFault.{LayFault}
use Rattle.meaning.specs.Matcher.{accepted, refused}
use Rattle.meaning.specs.Readings.{Reads}
use Rattle.meaning.specs.Laying.{laid_in}
use Rattle.laws.specs.Stops.{LayingStops}
use Rattle.laws.specs.Unfolds.{Unfolds}
use Rattle.laws.specs.Distinct.{Distinct}
use Rattle.laws.specs.Nesting.{depth}

-- the matcher accepts exactly when a reading exists and fits the list, and then with that reading
abbrev pub AcceptsReadings : Type 0
AcceptsReadings =
    (text : List ℕ) (rows : List Row) (cells : List Cell) (room : ℕ) (T : List PieceSpec)
    → (laid_in text rows cells room ≡ accepted T) ↔ (Reads text rows cells T × (length T ≤ room))

-- and it refuses exactly where laying stops, for that reason, at that row and with those pieces
abbrev pub StopsDecide : Type 0
StopsDecide =
    (text : List ℕ) (rows : List Row) (cells : List Cell) (room : ℕ) (e : LayFault) (r : ℕ)
    (A : List PieceSpec)
    → (laid_in text rows cells room ≡ refused e r A) ↔ LayingStops text rows cells room A e r

-- a reading of a message is the reading of each message that begins with the cells that it covers
abbrev pub CoveredCellsDecide : Type 0
CoveredCellsDecide =
    (text : List ℕ) (rows : List Row) (cells rest : List Cell) (T : List PieceSpec)
    → Reads text rows cells T → (total T ≤ length cells)
    × Reads text rows (take (total T) cells ++ rest) T

-- no two pieces of a reading by a checked sheet share a path
abbrev pub PathsDiffer : Type 0
PathsDiffer =
    (text : List ℕ) (rows : List Row) (cells : List Cell) (T : List PieceSpec)
    → lawful text rows ≡ true → Reads text rows cells T → Distinct T

-- what a row of a checked sheet stands for is built from what its parts stand for
abbrev pub RowsUnfold : Type 0
RowsUnfold = (text : List ℕ) (rows : List Row) → lawful text rows ≡ true → Unfolds text rows

-- no type of a checked sheet nests more than eight deep
abbrev pub TypesShallow : Type 0
TypesShallow =
    (text : List ℕ) (rows : List Row) → lawful text rows ≡ true
    → (k : ℕ) → k < length rows → family_of (word_at rows k) ≡ family.Type
    → depth (type_at text rows k) ≤ 8
