-- The values of a sheet.
use Rattle.std.specs.Prelude.{ℕ, ◌+◌, ◌-◌, ◌*◌, ◌^◌, Bool, true, false, cond, ◌&&◌, List, [], ◌∷◌, Some, None, Option, ◌==◌, nat_lt}
use Rattle.sheet_text.specs.Chars.{is_digit, is_name}
use Rattle.sheet_text.specs.declared.token.Token.{Token}
use Rattle.sheet_text.specs.declared.token.Token.TheVariants.{Name, Number, Blank}

pub data Value : Type 0 where
  name : List ℕ → Value
  number : ℕ → Value
  blank : Value

-- a token, with its bytes in the place of the reference to them
abbrev pub meaning : Token → Value
meaning (Name bytes) = name bytes.now
meaning (Number n) = number n
meaning Blank = blank

abbrev pub all_digits : List ℕ → Bool
all_digits [] = true
all_digits (b ∷ bs) = is_digit b && all_digits bs

-- the number that digits write after those that wrote n
abbrev pub decimal_after : ℕ → List ℕ → ℕ
decimal_after n [] = n
decimal_after n (b ∷ bs) = decimal_after (10 * n + (b - 48)) bs

-- the number, if it is at most 2^63 - 1
abbrev pub bounded : ℕ → Option ℕ
bounded n = cond (nat_lt n (2 ^ 63)) (Some n) None

abbrev pub digits_after : ℕ → List ℕ → Option ℕ
digits_after n bs = cond (all_digits bs) (bounded (decimal_after n bs)) None

-- digits, of which only a lone one may be a leading 0
abbrev pub leads_with_zero : List ℕ → Bool
leads_with_zero [] = false
leads_with_zero (b ∷ []) = false
leads_with_zero (b ∷ c ∷ bs) = b == 48

abbrev pub number_of : List ℕ → Option ℕ
number_of [] = None
number_of (b ∷ bs) = cond (leads_with_zero (b ∷ bs)) None (digits_after 0 (b ∷ bs))

abbrev pub as_number : Option ℕ → Option Value
as_number (Some n) = Some (number n)
as_number None = None

abbrev pub is_blank : List ℕ → Bool
is_blank [] = false
is_blank (b ∷ []) = b == 45
is_blank (b ∷ c ∷ bs) = false

abbrev pub value_of : List ℕ → Option Value
value_of bs = cond (is_blank bs) (Some blank) (cond (is_name bs) (Some (name bs)) (as_number (number_of bs)))
