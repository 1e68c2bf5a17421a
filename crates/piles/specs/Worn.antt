-- A message of one lost cell.
use Rattle.std.specs.Prelude.{ℕ, ◌≤◌, List, [], ◌∷◌}
use Rattle.std.proofs.Common.{arith}
use Rattle.cells.specs.declared.cell.Cell.{Cell}
use Rattle.cells.specs.declared.cell.Cell.TheVariants.{Lost}
use Rattle.cells.specs.Cells.{Lawful}

abbrev pub worn : ℕ → List Cell
worn layers = Lost (record { place = 0; layers = layers }) ∷ []

pub worn_lawful : (layers : ℕ) → layers ≤ 255 → Lawful (worn layers)
worn_lawful layers h = record { bounded = omega arith; marked = ((omega arith, h), tt) }
