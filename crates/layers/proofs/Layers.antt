-- How a window's cells come from those below.
use Rattle.std.proofs.Common.{◌≡◌, ℕ, ◌+◌, ◌-◌, ◌<◌, min, List, ◌++◌, map, length, take, drop, set, ap, ◌∙◌, arith}
use Rattle.std.specs.List.{slice_get}
use Rattle.std.specs.Option.{option_map}
use Rattle.std.proofs.Math.Seq.{take-set-lt}
use Rattle.std.proofs.lemmas.List.{map-set, drop-set-add, drop-set-lt, take-set-le}
use Rattle.std.proofs.lemmas.Option.{slice_get-map}
use Rattle.cells.specs.declared.cell.Cell.{Cell}
use Rattle.cells.specs.declared.cell.Cell.TheVariants.{Byte}
use Rattle.layers.specs.Layers.{aged, windowed, window_spares, Stands}
use Rattle.cells.proofs.Nths.{nth_take, nth_drop}

-- cell k of a window is cell a + k below
module _ (a n : ℕ) (cs : List Cell) (k : ℕ) (h : k < min n (length cs - a)) where
  window_nth : slice_get (windowed a n cs) k ≡ option_map aged (slice_get cs (a + k))
  unfolding windowed
  window_nth = slice_get-map aged (take n (drop a cs)) k ∙ ap (option_map aged) (nth_take n (drop a cs) k (omega arith) ∙ nth_drop a cs k)

  window_set : (b : ℕ) → windowed a n (set cs (a + k) (Byte b)) ≡ set (windowed a n cs) k (Byte b)
  unfolding windowed
  window_set b =
      ap (λ ds. map aged (take n ds)) (drop-set-add a cs k (Byte b))
      ∙ ap (map aged) (take-set-lt n (drop a cs) k (Byte b) (omega arith))
      ∙ map-set aged (take n (drop a cs)) k (Byte b)

  window_spared : (b : ℕ) → window_spares a n (set cs (a + k) (Byte b)) ≡ window_spares a n cs
  unfolding window_spares
  window_spared b =
      ap (λ ds. ds ++ drop (a + n) (set cs (a + k) (Byte b))) (take-set-le a cs (a + k) (Byte b) (omega arith))
      ∙ ap (λ ds. take a cs ++ ds) (drop-set-lt (a + n) cs (a + k) (Byte b) (omega arith))

  pub window_stands : Stands (windowed a n) (window_spares a n) cs k (a + k)
  window_stands = record { read = window_nth; wrote = window_set; spared = window_spared }
