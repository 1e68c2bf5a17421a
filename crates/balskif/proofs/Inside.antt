-- The pieces of a reading end within the cells.
use Rattle.std.proofs.Common.{◌≡◌, ℕ, ◌+◌, ◌≤◌, Bool, true, false, cond, List, [], ◌∷◌, length}
use Rattle.std.proofs.Common.{Some, None, Option, subst, arith}
use Rattle.std.specs.List.{AllByRecursion}
use Rattle.std.specs.Str.{bytes_eq}
use Rattle.cells.specs.declared.cell.Cell.{Cell}
use Rattle.list.specs.Contents.{or_else}
use Rattle.path.specs.Printed.{printed}
use Rattle.meaning.specs.Terms.{PieceSpec}
use Rattle.meaning.specs.Readings.{Reads}
use Rattle.sheet_text.specs.declared.row.Row.{Row}
use Rattle.listing.proofs.LaidLengths.{Within, layout_ends}
use Rattle.reading.specs.States.{named}

-- the one that is found is a later one, or this one
tested : (later : Option PieceSpec) (b : Bool) (q p : PieceSpec) (n : ℕ) → Within n q
    → (later ≡ Some p → Within n p)
    → or_else later (cond b (Some q) None) ≡ Some p → Within n p
tested (Some r) b q p n here there e = there e
tested None true q p n here there e = let same : q ≡ p = cc in subst (Within n) same here
tested None false q p n here there e = let z : ◌≡◌ {A = ℕ} 0 1 = cc in absurd (omega arith)

named_within : (n : ℕ) (path : List ℕ) (T : List PieceSpec) (p : PieceSpec)
    → AllByRecursion (Within n) T → named T path ≡ Some p → Within n p
named_within n path [] p w e = let z : ◌≡◌ {A = ℕ} 0 1 = cc in absurd (omega arith)
named_within n path (q ∷ T) p w e =
    tested (named T path) (bytes_eq (printed q.path) path) q p n w.0 (named_within n path T p w.1) e

-- so does the one with a path
pub named_inside : (text : List ℕ) (rows : List Row) (cells : List Cell) (T : List PieceSpec)
    (path : List ℕ) (p : PieceSpec)
    → Reads text rows cells T → named T path ≡ Some p → p.place + p.width ≤ length cells
named_inside text rows cells T path p reads =
    named_within (length cells) path T p (layout_ends rows cells reads)
