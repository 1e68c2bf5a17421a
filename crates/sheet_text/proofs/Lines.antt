-- The value in front of a place of the text.
use Rattle.std.proofs.Common.{◌≡◌, ℕ, ◌+◌, ◌<◌, ◌≤◌, ◌≢◌, true, false, cond, ltb, List, length, get_or, take, drop, Some, None, Option, refl, sym, ap, ◌∙◌, arith, ltb-true, eq-eqb, ne_eqb}
use borrow.Author.Tests.{false-ltb}
use Rattle.std.proofs.lemmas.List.{at_drop_more, at_drop_all}
use Rattle.std.proofs.lemmas.List.Recursion.{is_position_or_len}
use Rattle.std.specs.List.{position_or_len, position}
use Rattle.std.specs.Option.{option_map}
use Rattle.sheet_text.specs.Values.{Value, value_of}
use Rattle.sheet_text.specs.Lines.{is_stop, part_len, Placed, begins, part_by, part_at}
use Rattle.sheet_text.proofs.Numbers.{chosen_none, chosen_some}

module _ (n : ℕ) (rest : List ℕ) (at stop : ℕ) where
  placed : Value → Placed
  placed v = record { value = v; at = at; next = at + n + 1 }

  pub part_unended : begins stop (drop n rest) ≡ false → part_by n rest at stop ≡ None
  part_unended e = ap (λ t. cond t (option_map (λ v. record { value = v; at = at; next = at + n + 1 }) (value_of (take n rest))) None) e

  pub part_ended : (o : Option Value) → begins stop (drop n rest) ≡ true → value_of (take n rest) ≡ o → part_by n rest at stop ≡ option_map (λ v. record { value = v; at = at; next = at + n + 1 }) o
  part_ended o e f =
      ap (λ t. cond t (option_map (λ v. record { value = v; at = at; next = at + n + 1 }) (value_of (take n rest))) None) e
      ∙ ap (option_map (λ v. record { value = v; at = at; next = at + n + 1 })) f

first_stop : (xs : List ℕ) → part_len xs ≡ position_or_len is_stop xs
first_stop xs = is_position_or_len part_len is_stop refl (λ b bs. ap (cond (is_stop b) 0) (omega arith)) xs

-- the part ends at the first stop of what stands at the place
module _ (text rest : List ℕ) (at stop : ℕ) (front : rest ≡ drop at text) where
  by_len : (n : ℕ) → part_len rest ≡ n → part_at text at stop ≡ part_by n rest at stop
  unfolding part_at
  by_len n e = ap (λ l. part_by (part_len l) l at stop) (sym front) ∙ ap (λ m. part_by m rest at stop) e

  pub part_endless : None ≡ position is_stop rest → part_at text at stop ≡ None
  part_endless e =
      let none : ltb (position_or_len is_stop rest) (length rest) ≡ false = chosen_none _ _ (sym e) in
      let past : length rest ≤ part_len rest = omega (arith, first_stop rest, false-ltb _ _ (sym none)) in
      by_len _ refl ∙ part_unended (part_len rest) rest at stop (at_drop_all (begins stop) rest (part_len rest) past)

  module _ (n : ℕ) (first : Some n ≡ position is_stop rest) where
    here : (part_len rest ≡ n) × (n < length rest)
    here = let c = chosen_some _ _ n (sym first) in (first_stop rest ∙ c.1, omega (arith, c.1, ltb-true _ _ c.0))

    pub part_other : get_or rest n 0 ≢ stop → part_at text at stop ≡ None
    part_other e =
        by_len n here.0 ∙ part_unended n rest at stop (at_drop_more (begins stop) rest n 0 here.1 ∙ ne_eqb (get_or rest n 0) stop e)

    pub part_placed : (o : Option Value) → get_or rest n 0 ≡ stop → value_of (take n rest) ≡ o → part_at text at stop ≡ option_map (λ v. record { value = v; at = at; next = at + n + 1 }) o
    part_placed o e v =
        by_len n here.0 ∙ part_ended n rest at stop o (at_drop_more (begins stop) rest n 0 here.1 ∙ eq-eqb (get_or rest n 0) stop e) v
