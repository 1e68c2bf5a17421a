-- Cells with other bytes in their places.
use Rattle.std.specs.Prelude.{◌≡◌, ℕ, zero, suc, ◌+◌, ◌-◌, ◌<◌, ◌≤◌, ◌⊎◌, List, [], ◌∷◌, map}
use Rattle.std.specs.Prelude.{length, Some, None, Option}
use Rattle.std.specs.List.{slice_get}
use Rattle.cells.specs.declared.cell.Cell.{Cell}
use Rattle.cells.specs.declared.cell.Cell.TheVariants.{Byte}
use Rattle.cells.specs.declared.change.Change.{Change}

-- bytes for a place and the places behind it
pub record ChangeSpec : Type 0 where
  pub place : ℕ
  pub bytes : List ℕ

-- the changes that records of the program hold
abbrev pub change_of : Change → ChangeSpec
change_of c = record { place = c.place; bytes = c.bytes.now }

abbrev pub changes_of : List Change → List ChangeSpec
changes_of cs = map change_of cs

-- the cells with bytes put in from a place on, as far as there are cells
abbrev pub with_bytes : List Cell → ℕ → List ℕ → List Cell
with_bytes [] k bs = []
with_bytes (c ∷ cs) zero [] = c ∷ cs
with_bytes (c ∷ cs) zero (b ∷ bs) = Byte b ∷ with_bytes cs zero bs
with_bytes (c ∷ cs) (suc k) bs = c ∷ with_bytes cs k bs

-- the cells with one change after another: where two overlap, the later one stands
abbrev pub changed : List Cell → List ChangeSpec → List Cell
changed cs [] = cs
changed cs (c ∷ later) = changed (with_bytes cs c.place c.bytes) later

-- the byte that a change has for cell k, or none where it has none there
abbrev pub IsByteFor : ChangeSpec → ℕ → Option ℕ → Type 0
IsByteFor c k None = (k < c.place) ⊎ (c.place + length c.bytes ≤ k)
IsByteFor c k (Some b) = (c.place ≤ k) × (slice_get c.bytes (k - c.place) ≡ Some b)

-- what the changes make of cell k, whatever the cells: this byte, or what stood there
abbrev pub MakesOf : List ChangeSpec → ℕ → Option ℕ → Type 0
MakesOf changes k (Some b) =
    (cs : List Cell) → k < length cs → slice_get (changed cs changes) k ≡ Some (Byte b)
MakesOf changes k None = (cs : List Cell) → slice_get (changed cs changes) k ≡ slice_get cs k
