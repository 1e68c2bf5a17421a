-- What the layers mean.
use Rattle.std.specs.Prelude.{◌≡◌, ℕ, ◌+◌, ◌%◌, ◌<◌, ◌≤◌, min, List, [], ◌∷◌, ◌++◌, map, length, take, drop, Some, None, Option, Ok, Err, Result, slice_set}
use Rattle.std.specs.List.{slice_get}
use Rattle.std.specs.Option.{option_map}
use Rattle.cells.specs.declared.cell.Mark.{Mark}
use Rattle.cells.specs.declared.cell.Cell.{Cell}
use Rattle.cells.specs.declared.cell.Cell.TheVariants.{Byte, Lost}
use Rattle.cells.specs.declared.cell.ReadFault.{ReadFault}
use Rattle.cells.specs.declared.cell.ReadFault.TheVariants.{PastEnd, LostCell}

-- a lost mark after one more layer
abbrev pub aged_mark : Mark → Mark
aged_mark m = record { place = m.place; layers = min (m.layers + 1) 255 }

abbrev pub aged : Cell → Cell
aged (Byte b) = Byte b
aged (Lost m) = Lost (aged_mark m)

-- what a window (a, n) over these cells means
unfoldable pub windowed : ℕ → ℕ → List Cell → List Cell
windowed a n cs = map aged (take n (drop a cs))

-- what a window leaves out of the cells that it stands over
unfoldable pub window_spares : ℕ → ℕ → List Cell → List Cell
window_spares a n cs = take a cs ++ drop (a + n) cs

-- the answer of a layer at k, from that of the cell below
abbrev pub passed_up : ℕ → Result ℕ ReadFault → Result ℕ ReadFault
passed_up k (Ok b) = Ok b
passed_up k (Err (PastEnd i)) = Err (PastEnd k)
passed_up k (Err (LostCell m)) = Err (LostCell (aged_mark m))

-- the two of each pair exchanged; the last of an odd number stays
abbrev pub swap_pairs : List Cell → List Cell
swap_pairs [] = []
swap_pairs (x ∷ []) = x ∷ []
swap_pairs (x ∷ (y ∷ cs)) = y ∷ (x ∷ swap_pairs cs)

-- what a swap over these cells means
unfoldable pub swapped : List Cell → List Cell
swapped cs = map aged (swap_pairs cs)

-- cell k of a layer is cell `at` below it, one layer older, and a write there is a write here, which changes nothing that the layer leaves out
pub record Stands (layer left_out : List Cell → List Cell) (below : List Cell) (k at : ℕ) : Type 0 where
  pub read : slice_get (layer below) k ≡ option_map aged (slice_get below at)
  pub wrote : (b : ℕ) → layer (slice_set below at (Byte b)) ≡ slice_set (layer below) k (Byte b)
  pub spared : (b : ℕ) → left_out (slice_set below at (Byte b)) ≡ left_out below

-- where cell k of a layer stands below, if there is such a cell
abbrev pub Placed : (List Cell → List Cell) → (List Cell → List Cell) → List Cell → ℕ → Option ℕ → Type 0
Placed layer left_out below k None = length (layer below) ≤ k
Placed layer left_out below k (Some at) = Stands layer left_out below k at

-- among n cells, `at` is the place with which k changes
pub record Partner (n k at : ℕ) : Type 0 where
  pub odd : k % 2 ≡ 1 → at + 1 ≡ k
  pub even : k % 2 ≡ 0 → k + 1 < n → at ≡ k + 1
  pub last : k % 2 ≡ 0 → n ≤ k + 1 → at ≡ k

-- what a join of these cells and those means
unfoldable pub joined : List Cell → List Cell → List Cell
joined cs ds = map aged (take 65535 (cs ++ ds))

-- what is cut off a join
unfoldable pub join_spares : List Cell → List Cell → List Cell
join_spares cs ds = drop 65535 (cs ++ ds)
