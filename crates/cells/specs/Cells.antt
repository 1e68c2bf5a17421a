-- The words in which a source's promises are made.
use Rattle.std.specs.Prelude.{◌≡◌, ℕ, ◌/◌, ◌%◌, ◌≤◌, List, [], ◌∷◌, map, length, take, drop, Some, None, Ok, Err, Option, Result}
use Rattle.std.specs.List.{slice_get}
use Rattle.told.specs.Answers.{Answer, given, refused, as_told}
use Rattle.cells.specs.Refusals.{past_end, lost_cell, read_told}
use Rattle.cells.specs.declared.cell.Cell.{Cell}
use Rattle.cells.specs.declared.cell.Cell.TheVariants.{Byte, Lost}
use Rattle.cells.specs.declared.cell.ReadFault.{ReadFault}
use Rattle.cells.specs.declared.cell.ReadFault.TheVariants.{PastEnd, LostCell}

-- what a read at k tells, by the cell that stands there: its byte, 33 where it is lost, 31 where there is none
abbrev pub cell_told : ℕ → Option Cell → Answer ℕ
cell_told k None = refused (past_end k)
cell_told k (Some (Byte b)) = given b
cell_told k (Some (Lost m)) = refused (lost_cell m)

abbrev pub read_of : List Cell → ℕ → Answer ℕ
read_of cs k = cell_told k (slice_get cs k)

-- the same in the terms of the program
abbrev pub cell_read : Cell → Result ℕ ReadFault
cell_read (Byte b) = Ok b
cell_read (Lost m) = Err (LostCell m)

abbrev pub answered : ℕ → Option Cell → Result ℕ ReadFault
answered k None = Err (PastEnd k)
answered k (Some c) = cell_read c

abbrev pub read_at : List Cell → ℕ → Result ℕ ReadFault
read_at cs k = answered k (slice_get cs k)

-- the answer of a read at k, as it is told and in the terms of the program
pub record Answers (cs : List Cell) (k : ℕ) (r : Result ℕ ReadFault) : Type 0 where
  pub told : as_told read_told r ≡ read_of cs k
  pub answer : r ≡ read_at cs k

-- the numbers that a lost mark may carry
abbrev pub MarkFits : Cell → Type 0
MarkFits (Byte b) = Unit {0}
MarkFits (Lost m) = (m.place ≤ 65534) × (m.layers ≤ 255)

abbrev pub MarksFit : List Cell → Type 0
MarksFit [] = Unit {0}
MarksFit (c ∷ cs) = MarkFits c × MarksFit cs

-- what is true of every message: at most 65,535 cells, and no lost mark out of range
pub record Lawful (cs : List Cell) : Type 0 where
  pub bounded : length cs ≤ 65535
  pub marked : MarksFit cs

-- every cell is a byte
abbrev pub IsByte : Cell → Type 0
IsByte (Byte b) = Unit {0}
IsByte (Lost m) = ⊥

abbrev pub NoneLost : List Cell → Type 0
NoneLost [] = Unit {0}
NoneLost (c ∷ cs) = IsByte c × NoneLost cs

-- what handed-in bytes mean
unfoldable pub byte_cells : List ℕ → List Cell
byte_cells bs = map Byte (take 65535 bs)

-- the bytes that are handed in and are no part of the message
unfoldable pub byte_spares : List ℕ → List Cell
byte_spares bs = map Byte (drop 65535 bs)

-- the two bytes of a 16-bit word
abbrev pub high : ℕ → ℕ
high w = w / 256 % 256

abbrev pub low : ℕ → ℕ
low w = w % 256

-- the bytes of a word, the high one first
abbrev pub word_bytes : ℕ → List ℕ
word_bytes w = high w ∷ (low w ∷ [])

abbrev pub spread : List ℕ → List Cell
spread [] = []
spread (w ∷ ws) = Byte (high w) ∷ (Byte (low w) ∷ spread ws)

-- what handed-in words mean
unfoldable pub word_cells : List ℕ → List Cell
word_cells ws = spread (take 32767 ws)

-- the words that are handed in and are no part of the message
unfoldable pub word_spares : List ℕ → List Cell
word_spares ws = spread (drop 32767 ws)
