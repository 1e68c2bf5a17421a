-- The numbers of a sheet are written as they are printed.
use Rattle.std.proofs.Common.{◌≡◌, ℕ, zero, suc, ◌^◌, ◌<◌, true, List, length, get_or, Some, None, Option, decimal, sym, refl, ap, ◌∙◌, subst, ⊎_elim, arith}
use Rattle.std.specs.Prelude.{MatchOption}
use Rattle.std.proofs.lemmas.Bool.{and_parts, and_from, cases_lt}
use Rattle.std.proofs.lemmas.Fmt.{decimal-digits_value, decimal_digit, decimal_nonempty, digits_decimal, digits_value-decimal, first_decimal}
use Rattle.std.proofs.lemmas.Str.Parse.{IsNumeralModel, numerals_by_fold}
use Rattle.sheet_text.specs.Values.{all_digits, decimal_after, number_of}
use Rattle.sheet_text.specs.States.{Decimal}
use Rattle.sheet_text.proofs.Plain.{digit_is, digit_from}
use Rattle.sheet_text.proofs.Written.{digits_are, digits_from, number_is, number_from}

own : IsNumeralModel (λ ds. all_digits ds ≡ true) (decimal_after 0)
own =
    numerals_by_fold _
    (record {
      empty = refl;
      parts = λ c cs e. let p = and_parts _ _ e in (digit_is c p.0, p.1);
      more = λ c cs k e. and_from _ _ (digit_from c k) e;
    })
    decimal_after
    (record { empty = λ n. refl; more = λ n c cs k. ap (λ m. decimal_after m cs) (omega arith) })

written : (bs : List ℕ) (n : ℕ) → Decimal bs n → decimal n ≡ bs
written bs n d =
    let v = d.value in
    let s = d.small in
    let some = d.some in
    let lone : get_or bs 0 0 ≡ 48 → length bs ≡ 1 = λ z. ⊎_elim (λ h. absurd (d.leading h z)) (λ h. omega arith) (cases_lt 1 (length bs)) in
    ap decimal (sym v) ∙ decimal-digits_value own bs (digits_from bs d.digits) some lone (omega arith)

not_zero : (n : ℕ) → n < 2 ^ 63 → 1 < length (decimal n) → get_or (decimal n) 0 0 ≡ 48 → ⊥
not_zero zero h l z = omega (arith, ap length (decimal_digit 0 (omega arith)))
not_zero (suc n) h l z = omega (arith, first_decimal (suc n) (omega arith) (omega arith))

prints : (n : ℕ) → n < 2 ^ 63 → Decimal (decimal n) n
prints n h =
    record {
      some = decimal_nonempty n (omega arith);
      digits = digits_are (decimal n) (digits_decimal own n (omega arith));
      leading = not_zero n h;
      value = digits_value-decimal own n (omega arith);
      small = omega arith;
    }

read_some : (bs : List ℕ) (n : ℕ) → number_of bs ≡ Some n → (n < 2 ^ 63) × (decimal n ≡ bs)
read_some bs n e = let d = number_is bs n e in let s = d.small in (omega arith, written bs n d)

read_none : (bs : List ℕ) → number_of bs ≡ None → (n : ℕ) → n < 2 ^ 63 → decimal n ≡ bs → ⊥
read_none bs e n h p = let z : Some n ≡ None = sym (number_from bs n (subst (λ t. Decimal t n) p (prints n h))) ∙ e in cc

-- what a text is read as is the number that it is in print
pub read : (bs : List ℕ) (r : Option ℕ) → r ≡ number_of bs → MatchOption r ((n : ℕ) → n < 2 ^ 63 → decimal n ≡ bs → ⊥) (λ n. (n < 2 ^ 63) × (decimal n ≡ bs))
read bs (Some n) e = read_some bs n (sym e)
read bs None e = read_none bs (sym e)
