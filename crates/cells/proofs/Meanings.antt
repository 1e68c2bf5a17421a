-- What reads and writes do to the cells that a source means.
use Rattle.std.proofs.Common.{◌≡◌, ℕ, zero, suc, ◌≤◌, List, [], ◌∷◌, length, Err, ap}
use Rattle.std.proofs.Common.{suc-le-suc, zero-le, arith}
use Rattle.std.specs.List.{slice_get}
use Rattle.std.proofs.lemmas.Option.{slice_get_past}
use Rattle.cells.specs.declared.cell.Cell.{Cell}
use Rattle.cells.specs.declared.cell.Cell.TheVariants.{Byte, Lost}
use Rattle.cells.specs.declared.cell.ReadFault.{ReadFault}
use Rattle.cells.specs.declared.cell.ReadFault.TheVariants.{PastEnd}
use Rattle.cells.specs.Cells.{read_at, answered, NoneLost}

pub read_past : (cs : List Cell) (k : ℕ) → length cs ≤ k → read_at cs k ≡ Err (PastEnd k)
read_past cs k h = ap (answered k) (slice_get_past cs k h)

-- among bytes only a place past the end is refused
pub whole_err_past : (cs : List Cell) (i k : ℕ) (f : ReadFault) → NoneLost cs
    → Err f ≡ answered i (slice_get cs k) → length cs ≤ k
whole_err_past [] i k f w e = zero-le
whole_err_past (Byte b ∷ cs) i zero f w e =
    absurd (let z : ◌≡◌ {A = ℕ} 0 1 = cc in omega arith)
whole_err_past (Lost m ∷ cs) i zero f w e = absurd w.0
whole_err_past (c ∷ cs) i (suc k) f w e = suc-le-suc (whole_err_past cs i k f w.1 e)
