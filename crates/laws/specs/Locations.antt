-- Which piece a location names.
use Rattle.std.specs.Prelude.{◌≡◌, ℕ, true, ◌↔◌, List, ◌++◌, Ok, Contains}
use Rattle.cells.specs.declared.cell.Cell.{Cell}
use Rattle.sheet.specs.Verdict.{lawful}
use Rattle.sheet_text.specs.declared.row.Row.{Row}
use Rattle.meaning.specs.Terms.{Path, PieceSpec}
use Rattle.meaning.specs.Values.{placed}
use Rattle.meaning.specs.declared.fault.LayFault.{LayFault}
use Rattle.meaning.specs.Readings.{Reads}
use Rattle.laws.specs.Distinct.{Distinct}
use Rattle.laws.specs.Stops.{LayingStops}

-- after the pieces A a path names a piece exactly if the piece is one of them and has that path
abbrev pub NamesOne : List PieceSpec → Type 0
NamesOne A = (q : Path) (p : PieceSpec) → (placed A q ≡ Ok p) ↔ (Contains A p × (p.path ≡ q))

pub record LocationsName : Type 0 where
  -- so it is where all paths differ
  pub distinct : (A : List PieceSpec) → Distinct A → NamesOne A
  -- so after the first pieces of a reading by a checked sheet, however many they are
  pub reading : (text : List ℕ) (rows : List Row) (cells : List Cell) (A B : List PieceSpec)
      → lawful text rows ≡ true → Reads text rows cells (A ++ B) → NamesOne A
  -- and after those placed where its laying stops
  pub stopped : (text : List ℕ) (rows : List Row) (cells : List Cell) (room : ℕ) (e : LayFault)
      (r : ℕ) (A B : List PieceSpec)
      → lawful text rows ≡ true → LayingStops text rows cells room (A ++ B) e r → NamesOne A
