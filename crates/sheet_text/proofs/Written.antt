-- The values that bytes write.
use Rattle.std.proofs.Common.{◌≡◌, ℕ, zero, suc, ◌^◌, ◌<◌, Bool, true, false, cond, ◌||◌, eqb, ltb, List, [], ◌∷◌, length, get_or, Some, None, Option, sym, refl, ap, ◌∙◌, subst, ⊎_elim, arith, ltb-true, eq-eqb, ne_eqb, eqb-true}
use Rattle.sheet_text.specs.Chars.{is_digit, is_name}
use Rattle.sheet_text.specs.Values.{Value, name, number, blank, all_digits, decimal_after, bounded, digits_after, leads_with_zero, number_of, as_number, is_blank, value_of}
use Rattle.sheet_text.specs.Lines.{is_stop}
use Rattle.sheet_text.specs.Plain.{Letter, Digit, NamePart}
use Rattle.sheet_text.specs.States.{Decimal, Writes}
use Rattle.sheet_text.proofs.Numbers.{bounded_under}
use Rattle.sheet_text.proofs.Plain.{digit_is, digit_from, name_is, name_made}
use Rattle.std.proofs.lemmas.Bool.{false≢true, both_ways, and_parts, and_from, false_from_ne_true}

-- a test that let a value through
chosen : {A : Type 0} (t : Bool) (o : Option A) (x : A) → cond t o None ≡ Some x → (t ≡ true) × (o ≡ Some x)
chosen true o x e = (refl, e)
chosen false o x e = let z : ◌≡◌ {A = ℕ} 0 1 = cc in absurd (omega arith)

passed : {A : Type 0} (t : Bool) (o : Option A) (x : A) → cond t None o ≡ Some x → (t ≡ false) × (o ≡ Some x)
passed false o x e = (refl, e)
passed true o x e = let z : ◌≡◌ {A = ℕ} 0 1 = cc in absurd (omega arith)

pub digits_are : (bs : List ℕ) → all_digits bs ≡ true → (i : ℕ) → i < length bs → Digit (get_or bs i 0)
digits_are [] e i h = absurd (omega arith)
digits_are (b ∷ bs) e zero h = digit_is b (and_parts (is_digit b) (all_digits bs) e).0
digits_are (b ∷ bs) e (suc i) h = digits_are bs (and_parts (is_digit b) (all_digits bs) e).1 i (omega arith)

pub digits_from : (bs : List ℕ) → ((i : ℕ) → i < length bs → Digit (get_or bs i 0)) → all_digits bs ≡ true
digits_from [] h = refl
digits_from (b ∷ bs) h = and_from _ _ (digit_from b (h 0 (omega arith))) (digits_from bs (λ i l. h (suc i) (omega arith)))

zero_leads : (bs : List ℕ) → leads_with_zero bs ≡ false → 1 < length bs → get_or bs 0 0 ≡ 48 → ⊥
zero_leads [] e h z = omega arith
zero_leads (b ∷ []) e h z = omega arith
zero_leads (b ∷ c ∷ bs) e h z = both_ways _ e (eq-eqb b 48 z)

none_leads : (bs : List ℕ) → (1 < length bs → get_or bs 0 0 ≡ 48 → ⊥) → leads_with_zero bs ≡ false
none_leads [] h = refl
none_leads (b ∷ []) h = refl
none_leads (b ∷ c ∷ bs) h = ne_eqb b 48 (h (omega arith))

pub number_is : (bs : List ℕ) (n : ℕ) → number_of bs ≡ Some n → Decimal bs n
number_is [] n e = let z : ◌≡◌ {A = ℕ} 0 1 = cc in absurd (omega arith)
number_is (b ∷ bs) n e =
    let p = passed (leads_with_zero (b ∷ bs)) (digits_after 0 (b ∷ bs)) n e in
    let q = chosen (all_digits (b ∷ bs)) (bounded (decimal_after 0 (b ∷ bs))) n p.1 in
    let r = chosen (ltb (decimal_after 0 (b ∷ bs)) (2 ^ 63)) (Some (decimal_after 0 (b ∷ bs))) n q.1 in
    let same : decimal_after 0 (b ∷ bs) ≡ n = let g = r.1 in cc in
    let less : decimal_after 0 (b ∷ bs) < 2 ^ 63 = ltb-true _ _ r.0 in
    record { some = omega arith; digits = digits_are (b ∷ bs) q.0; leading = zero_leads (b ∷ bs) p.0; value = same; small = omega arith }

pub number_from : (bs : List ℕ) (n : ℕ) → Decimal bs n → number_of bs ≡ Some n
number_from [] n d = let z = d.some in absurd (omega arith)
number_from (b ∷ bs) n d =
    let v = d.value in
    let s = d.small in
    ap (λ t. cond t None (digits_after 0 (b ∷ bs))) (none_leads (b ∷ bs) d.leading)
    ∙ ap (λ t. cond t (bounded (decimal_after 0 (b ∷ bs))) None) (digits_from (b ∷ bs) d.digits)
    ∙ bounded_under (decimal_after 0 (b ∷ bs)) (omega arith) ∙ ap Some v

blank_is : (bs : List ℕ) → is_blank bs ≡ true → bs ≡ 45 ∷ []
blank_is [] e = absurd (false≢true e)
blank_is (b ∷ []) e = ap (λ c. c ∷ []) (eqb-true b 45 e)
blank_is (b ∷ c ∷ bs) e = absurd (false≢true e)

-- the value of bytes, by its tests
module _ (bs : List ℕ) where
  numeral : (o : Option ℕ) → number_of bs ≡ o → (v : Value) → as_number o ≡ Some v → Writes bs v
  numeral None e v h = let z : ◌≡◌ {A = ℕ} 0 1 = cc in absurd (omega arith)
  numeral (Some n) e v h = let same : number n ≡ v = cc in subst (Writes bs) same (number_is bs n e)

  named : (t : Bool) → is_name bs ≡ t → (v : Value) → cond t (Some (name bs)) (as_number (number_of bs)) ≡ Some v → Writes bs v
  named true e v h = let same : name bs ≡ v = cc in subst (Writes bs) same (refl, name_is bs e)
  named false e v h = numeral _ refl v h

  blanked : (t : Bool) → is_blank bs ≡ t → (v : Value) → cond t (Some blank) (cond (is_name bs) (Some (name bs)) (as_number (number_of bs))) ≡ Some v → Writes bs v
  blanked true e v h = let same : blank ≡ v = cc in subst (Writes bs) same (blank_is bs e)
  blanked false e v h = named _ refl v h

  pub value_is : (v : Value) → value_of bs ≡ Some v → Writes bs v
  value_is v h = blanked _ refl v h

  not_blank : (get_or bs 0 0 ≡ 45 → ⊥) → is_blank bs ≡ false
  not_blank h = false_from_ne_true (is_blank bs) (λ e. h (ap (λ xs. get_or xs 0 0) (blank_is bs e)))

  past_blank : is_blank bs ≡ false → value_of bs ≡ cond (is_name bs) (Some (name bs)) (as_number (number_of bs))
  past_blank e = ap (λ t. cond t (Some blank) (cond (is_name bs) (Some (name bs)) (as_number (number_of bs)))) e

  letter_digit : (b : ℕ) → Letter b → Digit b → ⊥
  letter_digit b l d = ⊎_elim (λ p. omega (arith, p.0, d.1)) (λ p. omega (arith, p.0, d.1)) l

  pub value_from : (v : Value) → Writes bs v → value_of bs ≡ Some v
  value_from blank h = ap value_of h
  value_from (name x) h =
      past_blank (not_blank (λ e. ⊎_elim (λ p. omega (arith, p.0, e)) (λ p. omega (arith, p.0, e)) h.1.first))
      ∙ ap (λ t. cond t (Some (name bs)) (as_number (number_of bs))) (name_made bs h.1) ∙ ap (λ y. Some (name y)) (sym h.0)
  value_from (number n) h =
      let first : Digit (get_or bs 0 0) = let s = h.some in h.digits 0 (omega arith) in
      past_blank (not_blank (λ e. omega (arith, first.0, e)))
      ∙ ap (λ t. cond t (Some (name bs)) (as_number (number_of bs))) (false_from_ne_true (is_name bs) (λ e. letter_digit _ (name_is bs e).first first))
      ∙ ap as_number (number_from bs n h)

-- no byte of a value is a comma or a line feed
no_stop : (b : ℕ) → (b ≡ 44 → ⊥) → (b ≡ 10 → ⊥) → is_stop b ≡ false
no_stop b h g = ap (λ t. t || eqb b 10) (ne_eqb b 44 h) ∙ ne_eqb b 10 g

digit_no_stop : (b : ℕ) → Digit b → is_stop b ≡ false
digit_no_stop b d = no_stop b (λ e. omega (arith, d.0)) (λ e. omega (arith, d.0))

part_no_stop : (b : ℕ) → NamePart b → is_stop b ≡ false
part_no_stop b h =
    ⊎_elim (λ l. ⊎_elim (λ p. no_stop b (λ e. omega (arith, p.0)) (λ e. omega (arith, p.0))) (λ p. no_stop b (λ e. omega (arith, p.0)) (λ e. omega (arith, p.0))) l)
    (λ q. ⊎_elim (λ d. digit_no_stop b d) (λ u. no_stop b (λ e. omega arith) (λ e. omega arith)) q)
    h

pub no_stops : (bs : List ℕ) (v : Value) → Writes bs v → (i : ℕ) → i < length bs → is_stop (get_or bs i 0) ≡ false
no_stops bs (name x) h i l = part_no_stop _ (h.1.each i l)
no_stops bs (number n) h i l = digit_no_stop _ (h.digits i l)
no_stops bs blank h i l =
    let one : i < 1 = subst (λ xs. i < length xs) h l in
    let none : i ≡ 0 = omega arith in
    ap (λ xs. is_stop (get_or xs i 0)) h ∙ ap (λ j. is_stop (get_or (45 ∷ []) j 0)) none
