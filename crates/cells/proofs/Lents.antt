-- The bytes of lent units, read and written.
use Rattle.std.proofs.Common.{◌≡◌, ℕ, zero, suc, ◌+◌, ◌-◌, ◌*◌, ◌/◌, ◌%◌, ◌<◌, min, List, [], ◌∷◌, ◌++◌, map, length, get_or, take, set, Some, Ok, sym, refl, ap, ◌∙◌, arith}
use Rattle.std.specs.List.{slice_get, flat_map}
use Rattle.std.specs.Option.{option_map}
use Rattle.std.proofs.lemmas.List.{map-set, drop-set-lt, set-append_left, set-append_right}
use Rattle.std.proofs.lemmas.Option.{slice_get-map, slice_get-get_or}
use Rattle.std.proofs.Math.Nat.{suc-mul}
use Rattle.std.proofs.Math.Seq.{take-set-lt}
use Rattle.std.proofs.lemmas.Nat.{div_below, mod_below, div-add-mod'}
use Rattle.cells.specs.declared.cell.Cell.{Cell}
use Rattle.cells.specs.declared.cell.Cell.TheVariants.{Byte}
use Rattle.cells.specs.Cells.{Answers, answered}
use Rattle.cells.specs.Lent.{unit_cells, UnitLaws}
use Rattle.cells.specs.Laws.{lent_length}
use Rattle.cells.proofs.Nths.{nth_left, nth_right, nth_take}
use Rattle.cells.proofs.Tells.{answers}

module _ {U : Type 0} {bytes : U → List ℕ} {width : ℕ} {cells spares : List U → List Cell} (laws : UnitLaws bytes width cells spares) where
  -- past one unit
  past_one : (u : U) (i j : ℕ) → suc i * width + j ≡ length (bytes u) + (i * width + j)
  past_one u i j = omega (arith, laws.each u, suc-mul i width)

  -- byte j of unit i
  bytes_nth : (us : List U) (i j : ℕ) (u : U) → slice_get us i ≡ Some u → j < width → slice_get (flat_map bytes us) (i * width + j) ≡ slice_get (bytes u) j
  bytes_nth [] i j u e h = absurd (let z : ◌≡◌ {A = ℕ} 0 1 = cc in omega arith)
  bytes_nth (v ∷ us) zero j u e h =
      let z : 0 * width + j ≡ j = omega arith in
      let same : v ≡ u = cc in
      ap (slice_get (bytes v ++ flat_map bytes us)) z
      ∙ nth_left (bytes v) (flat_map bytes us) j (omega (arith, laws.each v))
      ∙ ap (λ w. slice_get (bytes w) j) same
  bytes_nth (v ∷ us) (suc i) j u e h =
      ap (slice_get (bytes v ++ flat_map bytes us)) (past_one v i j)
      ∙ nth_right (bytes v) (flat_map bytes us) (i * width + j)
      ∙ bytes_nth us i j u e h

  -- byte j of unit i made another
  bytes_set :
      (us : List U) (i j : ℕ) (u u' : U) (b : ℕ) → slice_get us i ≡ Some u → j < width → bytes u' ≡ set (bytes u) j b →
      flat_map bytes (set us i u') ≡ set (flat_map bytes us) (i * width + j) b
  bytes_set [] i j u u' b e h w = absurd (let z : ◌≡◌ {A = ℕ} 0 1 = cc in omega arith)
  bytes_set (v ∷ us) zero j u u' b e h w =
      let z : j ≡ 0 * width + j = omega arith in
      let same : u ≡ v = cc in
      ap (λ bs. bs ++ flat_map bytes us) (w ∙ ap (λ x. set (bytes x) j b) same)
      ∙ sym (set-append_left (bytes v) (flat_map bytes us) j b (omega (arith, laws.each v)))
      ∙ ap (λ k. set (bytes v ++ flat_map bytes us) k b) z
  bytes_set (v ∷ us) (suc i) j u u' b e h w =
      let n = length (bytes v) in
      let k : suc i * width + j - n ≡ i * width + j = omega (arith, past_one v i j) in
      ap (λ bs. bytes v ++ bs) (bytes_set us i j u u' b e h w)
      ∙ ap (λ m. bytes v ++ set (flat_map bytes us) m b) (sym k)
      ∙ sym (set-append_right (bytes v) (flat_map bytes us) n (suc i * width + j) b refl (omega (arith, past_one v i j)))

  module _ (us : List U) (k : ℕ) (within : k < length (cells us)) where
    -- the unit of cell k counts
    counts : k / width < min (65535 / width) (length us)
    counts = div_below k width (min (65535 / width) (length us)) laws.wide (omega (arith, lent_length laws us))

    pub unit_within : k / width < length us
    unit_within = omega (arith, counts)

    pub byte_within : k % width < width
    byte_within = mod_below k width laws.wide

    module _ (d : U) where
      among : slice_get (take (65535 / width) us) (k / width) ≡ Some (get_or us (k / width) d)
      among = nth_take (65535 / width) us (k / width) (omega (arith, counts)) ∙ slice_get-get_or us (k / width) d unit_within

      lent_nth : slice_get (cells us) k ≡ Some (Byte (get_or (bytes (get_or us (k / width) d)) (k % width) 0))
      lent_nth =
          let u = get_or us (k / width) d in
          ap (λ cs. slice_get cs k) (laws.counted us)
          ∙ slice_get-map Byte (flat_map bytes (take (65535 / width) us)) k
          ∙ ap (option_map Byte)
          (ap (slice_get (flat_map bytes (take (65535 / width) us))) (sym (div-add-mod' k width))
          ∙ bytes_nth (take (65535 / width) us) (k / width) (k % width) u among byte_within
          ∙ slice_get-get_or (bytes u) (k % width) 0 (omega (arith, laws.each u, byte_within)))

      -- its byte is the answer at k
      pub lent_read : (b : ℕ) → b ≡ get_or (bytes (get_or us (k / width) d)) (k % width) 0 → Answers (cells us) k (Ok b)
      lent_read b e = answers (ap Ok e ∙ sym (ap (answered k) lent_nth))

      -- and another unit in its place
      module _ (u' : U) (b : ℕ) (wrote : bytes u' ≡ set (bytes (get_or us (k / width) d)) (k % width) b) where
        pub lent_after : cells (set us (k / width) u') ≡ set (cells us) k (Byte b)
        lent_after =
            laws.counted (set us (k / width) u')
            ∙ ap (unit_cells bytes) (take-set-lt (65535 / width) us (k / width) u' (omega (arith, counts)))
            ∙ ap (map Byte) (bytes_set (take (65535 / width) us) (k / width) (k % width) (get_or us (k / width) d) u' b among byte_within wrote)
            ∙ map-set Byte (flat_map bytes (take (65535 / width) us)) (k / width * width + k % width) b
            ∙ ap (λ i. set (unit_cells bytes (take (65535 / width) us)) i (Byte b)) (div-add-mod' k width)
            ∙ ap (λ cs. set cs k (Byte b)) (sym (laws.counted us))

    pub lent_spared : (u' : U) → spares (set us (k / width) u') ≡ spares us
    lent_spared u' =
        laws.spared (set us (k / width) u')
        ∙ ap (unit_cells bytes) (drop-set-lt (65535 / width) us (k / width) u' (omega (arith, counts)))
        ∙ sym (laws.spared us)
