-- From an answer to what it tells.
use Rattle.std.proofs.Common.{◌≡◌, ℕ, List, Some, None, Option, Result, refl, ap, ◌∙◌}
use Rattle.std.specs.List.{slice_get}
use Rattle.told.specs.Answers.{as_told}
use Rattle.cells.specs.declared.cell.Cell.{Cell}
use Rattle.cells.specs.declared.cell.Cell.TheVariants.{Byte, Lost}
use Rattle.cells.specs.declared.cell.ReadFault.{ReadFault}
use Rattle.cells.specs.Cells.{answered, read_at, cell_told, Answers}
use Rattle.cells.specs.Refusals.{read_told}

told_answer : (k : ℕ) (o : Option Cell) → as_told read_told (answered k o) ≡ cell_told k o
told_answer k None = refl
told_answer k (Some (Byte b)) = refl
told_answer k (Some (Lost m)) = refl

pub answers : {cs : List Cell} {k : ℕ} {r : Result ℕ ReadFault} → r ≡ read_at cs k → Answers cs k r
answers {cs = cs} {k = k} e = record { told = ap (as_told read_told) e ∙ told_answer k (slice_get cs k); answer = e }
