-- How the cells of a join come from those of its two sources.
use Rattle.std.proofs.Common.{None, ◌≡◌, ℕ, ◌+◌, ◌-◌, ◌<◌, ◌≤◌, List, ◌++◌, map, length, take, drop, set, sym, ap, ◌∙◌, arith}
use Rattle.std.specs.List.{slice_get}
use Rattle.std.specs.Option.{option_map}
use Rattle.std.proofs.Math.Seq.{take-set-lt}
use Rattle.std.proofs.lemmas.List.{map-set, set-append_left, set-append_right, drop-set-lt, set_past}
use Rattle.std.proofs.lemmas.Option.{slice_get-map, slice_get_past}
use Rattle.cells.specs.declared.cell.Cell.{Cell}
use Rattle.cells.specs.declared.cell.Cell.TheVariants.{Byte}
use Rattle.layers.specs.Layers.{aged, joined, join_spares}
use Rattle.layers.specs.Laws.{joined_length, joined_whole}
use Rattle.cells.proofs.Nths.{nth_take, nth_left, nth_right}

-- cell k of a join
module _ (cs ds : List Cell) (k : ℕ) (l : k < 65535) where
  within : slice_get (joined cs ds) k ≡ option_map aged (slice_get (cs ++ ds) k)
  unfolding joined
  within = slice_get-map aged (take 65535 (cs ++ ds)) k ∙ ap (option_map aged) (nth_take 65535 (cs ++ ds) k l)

  pub join_first : k < length cs → slice_get (joined cs ds) k ≡ option_map aged (slice_get cs k)
  join_first h = within ∙ ap (option_map aged) (nth_left cs ds k h)

  pub join_second : (n : ℕ) → n ≡ length cs → n ≤ k → slice_get (joined cs ds) k ≡ option_map aged (slice_get ds (k - n))
  join_second n z h =
      let e : k ≡ length cs + (k - n) = omega arith in
      within ∙ ap (option_map aged) (ap (slice_get (cs ++ ds)) e ∙ nth_right cs ds (k - n))

  -- and a write of it, to the source that has it
  module _ (cs' ds' : List Cell) (b : ℕ) (e : cs' ++ ds' ≡ set (cs ++ ds) k (Byte b)) where
    join_set : joined cs' ds' ≡ set (joined cs ds) k (Byte b)
    unfolding joined
    join_set =
        ap (λ es. map aged (take 65535 es)) e
        ∙ ap (map aged) (take-set-lt 65535 (cs ++ ds) k (Byte b) l)
        ∙ map-set aged (take 65535 (cs ++ ds)) k (Byte b)

    join_spared : join_spares cs' ds' ≡ join_spares cs ds
    unfolding join_spares
    join_spared = ap (drop 65535) e ∙ drop-set-lt 65535 (cs ++ ds) k (Byte b) l

  pub set_first : (b : ℕ) → k < length cs → joined (set cs k (Byte b)) ds ≡ set (joined cs ds) k (Byte b)
  set_first b h = join_set (set cs k (Byte b)) ds b (sym (set-append_left cs ds k (Byte b) h))

  pub spared_first : (b : ℕ) → k < length cs → join_spares (set cs k (Byte b)) ds ≡ join_spares cs ds
  spared_first b h = join_spared (set cs k (Byte b)) ds b (sym (set-append_left cs ds k (Byte b) h))

  behind : (b n : ℕ) → n ≡ length cs → n ≤ k → cs ++ set ds (k - n) (Byte b) ≡ set (cs ++ ds) k (Byte b)
  behind b n z h = sym (set-append_right cs ds n k (Byte b) (sym z) h)

  pub set_second : (b n : ℕ) → n ≡ length cs → n ≤ k → joined cs (set ds (k - n) (Byte b)) ≡ set (joined cs ds) k (Byte b)
  set_second b n z h = join_set cs (set ds (k - n) (Byte b)) b (behind b n z h)

  pub spared_second : (b n : ℕ) → n ≡ length cs → n ≤ k → join_spares cs (set ds (k - n) (Byte b)) ≡ join_spares cs ds
  spared_second b n z h = join_spared cs (set ds (k - n) (Byte b)) b (behind b n z h)

-- past the end of a join
module _ (cs ds : List Cell) (k : ℕ) (h : 65535 ≤ k) where
  pub join_none : slice_get (joined cs ds) k ≡ None
  join_none = slice_get_past (joined cs ds) k (omega (arith, joined_length cs ds))

  pub set_end : (b : ℕ) → joined cs ds ≡ set (joined cs ds) k (Byte b)
  set_end b = sym (set_past (joined cs ds) k (Byte b) (omega (arith, joined_length cs ds)))

pub ruleset join_steps = (joined_whole, join_first, join_second, join_none, set_first, set_second, set_end, spared_first, spared_second)
