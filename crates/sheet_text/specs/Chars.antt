-- The bytes of names.
use Rattle.std.specs.Prelude.{ℕ, ◌-◌, Bool, true, false, cond, ◌&&◌, ◌||◌, List, [], ◌∷◌, length, Some, None, Option, ◌==◌, nat_le}
use Rattle.sheet_text.specs.declared.token.NameByte.{NameByte}
use Rattle.sheet_text.specs.declared.token.NameByte.TheVariants.{Letter, Digit, Underscore, Other}

-- b is one of low to high
abbrev pub within : ℕ → ℕ → ℕ → Bool
within low high b = nat_le low b && nat_le b high

abbrev pub is_letter : ℕ → Bool
is_letter b = within 97 122 b || within 65 90 b

abbrev pub is_digit : ℕ → Bool
is_digit b = within 48 57 b

-- the digit that the byte writes
abbrev pub digit_of : ℕ → Option ℕ
digit_of b = cond (is_digit b) (Some (b - 48)) None

abbrev pub class_of : ℕ → NameByte
class_of b = cond (is_letter b) Letter (cond (is_digit b) Digit (cond (b == 95) Underscore Other))

-- the classes that may lead a name, and that may follow
abbrev pub leads : NameByte → Bool
leads Letter = true
leads Digit = false
leads Underscore = false
leads Other = false

abbrev pub follows : NameByte → Bool
follows Letter = true
follows Digit = true
follows Underscore = true
follows Other = false

abbrev pub name_bytes : List ℕ → Bool
name_bytes [] = true
name_bytes (b ∷ bs) = follows (class_of b) && name_bytes bs

-- a letter, then letters, digits or _, and 1 to 16 bytes in all
abbrev pub is_name : List ℕ → Bool
is_name [] = false
is_name (b ∷ bs) = nat_le (length (b ∷ bs)) 16 && (leads (class_of b) && name_bytes bs)
