-- Digits in print.
use Rattle.std.specs.Prelude.{◌≡◌, ℕ, ◌+◌, ◌-◌, ◌*◌, ◌/◌, ◌%◌, ◌<◌, ◌≤◌, cond, List, [], ◌∷◌, length, nat_lt, slice_index}

-- a hexadecimal digit in lower case: 48 is `0` and 97 is `a`
abbrev pub hex_digit : ℕ → ℕ
hex_digit d = cond (nat_lt d 10) (48 + d) (97 + (d - 10))

-- a byte as two hexadecimal digits, the higher first
abbrev pub hex_text : ℕ → List ℕ
hex_text b = hex_digit (b / 16) ∷ (hex_digit (b % 16) ∷ [])

-- the number that decimal digits write, after those that wrote n
abbrev pub decimal_after : ℕ → List ℕ → ℕ
decimal_after n [] = n
decimal_after n (d ∷ ds) = decimal_after (10 * n + (d - 48)) ds

-- the text writes the number n in decimal, without leading zeros
pub record Writes (n : ℕ) (ds : List ℕ) : Type 0 where
  pub some : 0 < length ds
  pub digits : (k : ℕ) → k < length ds → (48 ≤ slice_index ds k) × (slice_index ds k ≤ 57)
  pub value : decimal_after 0 ds ≡ n
  pub plain : slice_index ds 0 ≡ 48 → length ds ≡ 1
