-- Steps and paths read from print.
use Rattle.std.proofs.Common.{◌≡◌, ℕ, ◌^◌, ◌<◌, ◌≤◌, Bool, cond, List, length, Some, None, Option, decimal, sym, ap, ◌∙◌, ⊎_elim, arith, le-ltb, lt-ltb}
use Rattle.std.specs.Prelude.{MatchOption}
use Rattle.std.specs.List.{position, position_or_len}
use Rattle.std.specs.Option.{unwrap_or}
use Rattle.std.proofs.Math.Bool.{not}
use Rattle.std.proofs.lemmas.Bool.{cases_lt}
use Rattle.std.proofs.lemmas.List.Sums.{prefix_len-le-length}
use Rattle.std.proofs.lemmas.Fmt.{decimal_injective}
use Rattle.path.specs.declared.Element.{Element}

-- an element by its number, and by its number in print
pub element_by : (o : Option Element) (n : ℕ) (ds : List ℕ) → n < 2 ^ 63 → decimal n ≡ ds
    → MatchOption o (65534 < n) (λ e. (n ≤ 65534) × (e.number ≡ n))
    → MatchOption o ((i : ℕ) → i ≤ 65534 → decimal i ≡ ds → ⊥) (λ e. decimal e.number ≡ ds)
element_by None n ds h p m = λ i l q. omega (arith, m, decimal_injective i n (omega arith) (omega arith) (q ∙ sym p))
element_by (Some e) n ds h p m = ap decimal m.1 ∙ p

-- a first place that may be the length
pub ahead_by : (p : ℕ → Bool) (xs : List ℕ) → unwrap_or (position p xs) (length xs) ≡ position_or_len p xs
ahead_by p xs =
    ⊎_elim
    (λ h. ap (λ t. unwrap_or (cond t (Some (position_or_len p xs)) None) (length xs)) (lt-ltb (position_or_len p xs) (length xs) h))
    (λ h. ap (λ t. unwrap_or (cond t (Some (position_or_len p xs)) None) (length xs)) (le-ltb (position_or_len p xs) (length xs) h)
    ∙ omega (arith, prefix_len-le-length (λ x. not (p x)) xs))
    (cases_lt (position_or_len p xs) (length xs))
