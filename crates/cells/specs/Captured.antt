-- What a capture means.
use Rattle.std.specs.Prelude.{◌≡◌, ℕ, suc, ◌+◌, ◌*◌, ◌<◌, ◌⊎◌, List, [], ◌∷◌, length, take, Some, None, Ok, Err, Option, Result, slice_index}
use Rattle.cells.specs.declared.cell.Cell.{Cell}
use Rattle.cells.specs.declared.cell.Cell.TheVariants.{Byte, Lost}
use Rattle.cells.specs.declared.cell.CaptureFault.{CaptureFault}
use Rattle.cells.specs.declared.capture.Capture.{Capture}
use Rattle.cells.specs.declared.hex.Pair.{Pair}
use Rattle.cells.specs.declared.hex.Pair.TheVariants.{Digits, Dashes}
use Rattle.told.specs.Answers.{Answer, given, refused}
use Rattle.cells.specs.Refusals.{bad_pair, capture_told}
use Rattle.cells.specs.Hex.{pair_of}

-- pair number i of a text, unless it is bad
abbrev pub pair_at : List ℕ → ℕ → Option Pair
pair_at t i = pair_of (slice_index t (2 * i)) (slice_index t (2 * i + 1))

-- pair number i as a cell. No opened capture has a bad pair
abbrev pub cell_of : ℕ → Option Pair → Cell
cell_of i (Some (Digits b)) = Byte b
cell_of i (Some Dashes) = Lost (record { place = i; layers = 0 })
cell_of i None = Lost (record { place = i; layers = 0 })

-- the cells of a text whose first pair has the number i
abbrev pub pair_cells : ℕ → List ℕ → List Cell
pair_cells i [] = []
pair_cells i (x ∷ []) = []
pair_cells i (x ∷ (y ∷ t)) = cell_of i (pair_of x y) ∷ pair_cells (suc i) t

-- what an opened capture means
unfoldable pub capture_cells : List ℕ → List Cell
capture_cells t = take 65535 (pair_cells 0 t)

abbrev pub or_bad : ℕ → Option Pair → Option ℕ → Option ℕ
or_bad i None rest = Some (2 * i)
or_bad i (Some p) rest = rest

-- the place of the first bad or cut pair of a text whose first pair has the number i
abbrev pub bad_from : ℕ → List ℕ → Option ℕ
bad_from i [] = None
bad_from i (x ∷ []) = Some (2 * i)
bad_from i (x ∷ (y ∷ t)) = or_bad i (pair_of x y) (bad_from (suc i) t)

-- what an opened text is told to be: its cells, or 32 with the place of the first bad or cut pair
abbrev pub opened_by : Option ℕ → List Cell → Answer (List Cell)
opened_by None cs = given cs
opened_by (Some p) cs = refused (bad_pair p)

abbrev pub opened : List ℕ → Answer (List Cell)
opened t = opened_by (bad_from 0 t) (capture_cells t)

-- an answer of `open`, with the cells that the capture means in its place
abbrev pub capture_answer : Result Capture CaptureFault → Answer (List Cell)
capture_answer (Ok s) = given (capture_cells s.text.now)
capture_answer (Err e) = refused (capture_told e)

-- pair number i begins in the text, and is cut or bad
abbrev pub PairFault : List ℕ → ℕ → Type 0
PairFault t i = (2 * i < length t) × ((length t ≡ 2 * i + 1) ⊎ (pair_at t i ≡ None))

-- the pair that begins at place p is the first that is cut or bad
pub record FirstFault (t : List ℕ) (p : ℕ) : Type 0 where
  pub pair : ℕ
  pub place : p ≡ 2 * pair
  pub fault : PairFault t pair
  pub first : (i : ℕ) → i < pair → PairFault t i → ⊥

-- a text opens exactly where no pair is cut or bad
abbrev pub OpensBy : List ℕ → Result Capture CaptureFault → Type 0
OpensBy t (Ok s) = (i : ℕ) → PairFault t i → ⊥
OpensBy t (Err e) = FirstFault t e.place
