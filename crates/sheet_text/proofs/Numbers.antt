use Rattle.std.proofs.Common.{◌≡◌, ℕ, ◌+◌, ◌-◌, ◌*◌, ◌^◌, ◌<◌, ◌≤◌, Bool, true, false, cond, ◌&&◌, List, [], ◌∷◌, Some, None, Option, refl, ap, ◌∙◌, arith, le-ltb, lt-ltb}
use Rattle.sheet_text.specs.Chars.{is_digit}
use Rattle.sheet_text.specs.Values.{all_digits, decimal_after, bounded, digits_after}

pub chosen_none : (t : Bool) (d : ℕ) → cond t (Some d) None ≡ None → t ≡ false
chosen_none true d e = let z : ◌≡◌ {A = ℕ} 0 1 = cc in absurd (omega arith)
chosen_none false d e = refl

pub chosen_some : (t : Bool) (d n : ℕ) → cond t (Some d) None ≡ Some n → (t ≡ true) × (d ≡ n)
chosen_some true d n e = (refl, cc)
chosen_some false d n e = let z : ◌≡◌ {A = ℕ} 0 1 = cc in absurd (omega arith)

pub digits_step : (n b : ℕ) (bs : List ℕ) → is_digit b ≡ true → digits_after n (b ∷ bs) ≡ digits_after (10 * n + (b - 48)) bs
digits_step n b bs e = ap (λ t. cond (t && all_digits bs) (bounded (decimal_after n (b ∷ bs))) None) e

pub decimal_ge : (n : ℕ) (bs : List ℕ) → n ≤ decimal_after n bs
decimal_ge n [] = omega arith
decimal_ge n (b ∷ bs) = let h : 10 * n + (b - 48) ≤ decimal_after (10 * n + (b - 48)) bs = decimal_ge (10 * n + (b - 48)) bs in omega arith

pub bounded_over : (n : ℕ) → 2 ^ 63 ≤ n → bounded n ≡ None
bounded_over n h = ap (λ t. cond t (Some n) None) (le-ltb n (2 ^ 63) h)

pub bounded_under : (n : ℕ) → n < 2 ^ 63 → bounded n ≡ Some n
bounded_under n h = ap (λ t. cond t (Some n) None) (lt-ltb n (2 ^ 63) h)

same_none : (t : Bool) → cond {A = Option ℕ} t None None ≡ None
same_none true = refl
same_none false = refl

pub digits_over : (n : ℕ) (bs : List ℕ) → 2 ^ 63 ≤ n → digits_after n bs ≡ None
digits_over n bs h =
    let ge = decimal_ge n bs in
    ap (λ o. cond (all_digits bs) o None) (bounded_over (decimal_after n bs) (omega arith)) ∙ same_none (all_digits bs)
