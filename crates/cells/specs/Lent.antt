-- What lent units mean, by the bytes of each.
use Rattle.std.specs.Prelude.{◌≡◌, ℕ, ◌/◌, ◌<◌, List, map, length, take, drop}
use Rattle.std.specs.List.{flat_map}
use Rattle.cells.specs.declared.cell.Cell.{Cell}
use Rattle.cells.specs.declared.cell.Cell.TheVariants.{Byte}

-- the bytes of units, one unit after another, each byte a cell
abbrev pub unit_cells : {U : Type 0} → (U → List ℕ) → List U → List Cell
unit_cells bytes us = map Byte (flat_map bytes us)

-- units of `width` bytes, of which no more count than make 65,535 cells
pub record UnitLaws {U : Type 0} (bytes : U → List ℕ) (width : ℕ) (cells spares : List U → List Cell) : Type 0 where
  pub wide : 0 < width
  pub each : (u : U) → length (bytes u) ≡ width
  pub counted : (us : List U) → cells us ≡ unit_cells bytes (take (65535 / width) us)
  pub spared : (us : List U) → spares us ≡ unit_cells bytes (drop (65535 / width) us)
