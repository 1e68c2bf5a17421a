-- What the decimal digits of a number write.
use Rattle.std.proofs.Common.{◌≡◌, ℕ, zero, suc, ◌^◌, ◌<◌, true, length, get_or, decimal, ap, arith, rules}
use Rattle.std.specs.Str.{all_ascii_digits}
use Rattle.std.proofs.lemmas.Fmt.{decimal_digit, decimal_is_IsNumeral, decimal_nonempty, first_decimal, digits_value-decimal}
use Rattle.std.proofs.lemmas.Str.Parse.{IsNumeralModel, numerals_by_fold, digit_at}
use Rattle.line.specs.Digits.{decimal_after, Writes}

own : IsNumeralModel (λ ds. all_ascii_digits ds ≡ true) (decimal_after 0)
own = numerals_by_fold _ (search rules) decimal_after (search rules)

lone : (n : ℕ) → n < 2 ^ 64 → get_or (decimal n) 0 0 ≡ 48 → length (decimal n) ≡ 1
lone zero h e = ap length (decimal_digit 0 (omega arith))
lone (suc n) h e = absurd (omega (arith, first_decimal (suc n) (omega arith) h))

pub writes_decimal : (n : ℕ) → n < 2 ^ 64 → Writes n (decimal n)
writes_decimal n h =
    record {
      some = decimal_nonempty n h;
      digits = λ k l. digit_at (decimal n) k (decimal_is_IsNumeral n h).0.1 l;
      value = digits_value-decimal own n h;
      plain = lone n h;
    }
