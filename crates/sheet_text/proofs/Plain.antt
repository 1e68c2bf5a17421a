-- The tests of bytes and names, and what they say.
use Rattle.std.proofs.Common.{◌≡◌, ℕ, zero, suc, ◌<◌, ◌≤◌, Bool, true, false, cond, ◌||◌, eqb, List, [], ◌∷◌, length, get_or, sym, refl, ◌∙◌, inl, inr, ⊎_elim, arith, eq-eqb, eqb-true, le-leb, leb-true}
use Rattle.sheet_text.specs.Chars.{within, is_letter, is_digit, class_of, leads, follows, name_bytes, is_name}
use Rattle.sheet_text.specs.Plain.{Letter, Digit, NamePart, ProperName}
use Rattle.sheet_text.specs.declared.token.NameByte.TheVariants as byte
use Rattle.std.proofs.lemmas.Bool.{false≢true, and_parts, and_from, or_cases, or_left, or_right}

within_is : (low high b : ℕ) → within low high b ≡ true → (low ≤ b) × (b ≤ high)
within_is low high b e = let p = and_parts _ _ e in (leb-true low b p.0, leb-true b high p.1)

within_from : (low high b : ℕ) → low ≤ b → b ≤ high → within low high b ≡ true
within_from low high b l h = and_from _ _ (le-leb low b l) (le-leb b high h)

pub letter_is : (b : ℕ) → is_letter b ≡ true → Letter b
letter_is b e = ⊎_elim (λ p. inl (within_is 97 122 b p)) (λ p. inr (within_is 65 90 b p)) (or_cases (within 97 122 b) (within 65 90 b) e)

pub letter_from : (b : ℕ) → Letter b → is_letter b ≡ true
letter_from b =
    ⊎_elim (λ p. or_left _ (within 65 90 b) (within_from 97 122 b p.0 p.1)) (λ p. or_right (within 97 122 b) (within 65 90 b) (within_from 65 90 b p.0 p.1))

pub digit_is : (b : ℕ) → is_digit b ≡ true → Digit b
digit_is b e = within_is 48 57 b e

pub digit_from : (b : ℕ) → Digit b → is_digit b ≡ true
digit_from b p = within_from 48 57 b p.0 p.1

-- the classes by their tests
leads_by : (l d u : Bool) → leads (cond l byte.Letter (cond d byte.Digit (cond u byte.Underscore byte.Other))) ≡ l
leads_by true d u = refl
leads_by false true u = refl
leads_by false false true = refl
leads_by false false false = refl

follows_by : (l d u : Bool) → follows (cond l byte.Letter (cond d byte.Digit (cond u byte.Underscore byte.Other))) ≡ (l || (d || u))
follows_by true d u = refl
follows_by false true u = refl
follows_by false false true = refl
follows_by false false false = refl

part_is : (b : ℕ) → follows (class_of b) ≡ true → NamePart b
part_is b e =
    ⊎_elim (λ p. inl (letter_is b p))
    (λ q. inr (⊎_elim (λ p. inl (digit_is b p)) (λ p. inr (eqb-true b 95 p)) (or_cases (is_digit b) (eqb b 95) q)))
    (or_cases (is_letter b) (is_digit b || eqb b 95) (sym (follows_by (is_letter b) (is_digit b) (eqb b 95)) ∙ e))

part_from_lem : (b : ℕ) → NamePart b → follows (class_of b) ≡ true
part_from_lem b h =
    follows_by (is_letter b) (is_digit b) (eqb b 95)
    ∙ ⊎_elim (λ p. or_left _ (is_digit b || eqb b 95) (letter_from b p))
    (λ q. or_right (is_letter b) (is_digit b || eqb b 95) (⊎_elim (λ p. or_left _ (eqb b 95) (digit_from b p)) (λ p. or_right (is_digit b) (eqb b 95) (eq-eqb b 95 p)) q))
    h

parts_are : (bs : List ℕ) → name_bytes bs ≡ true → (i : ℕ) → i < length bs → NamePart (get_or bs i 0)
parts_are [] e i h = absurd (omega arith)
parts_are (b ∷ bs) e zero h = part_is b (and_parts _ _ e).0
parts_are (b ∷ bs) e (suc i) h = parts_are bs (and_parts (follows (class_of b)) (name_bytes bs) e).1 i (omega arith)

parts_from : (bs : List ℕ) → ((i : ℕ) → i < length bs → NamePart (get_or bs i 0)) → name_bytes bs ≡ true
parts_from [] h = refl
parts_from (b ∷ bs) h = and_from _ _ (part_from_lem b (h 0 (omega arith))) (parts_from bs (λ i l. h (suc i) (omega arith)))

pub name_is : (bs : List ℕ) → is_name bs ≡ true → ProperName bs
name_is [] e = absurd (false≢true e)
name_is (b ∷ bs) e =
    let p = and_parts _ _ e in
    let q = and_parts _ _ p.1 in
    let l = letter_is b (sym (leads_by (is_letter b) (is_digit b) (eqb b 95)) ∙ q.0) in
    record {
      some = omega arith;
      few = leb-true _ 16 p.0;
      first = l;
      each = λ i h. parts_are (b ∷ bs) (and_from _ _ (part_from_lem b (inl l)) q.1) i h;
    }

pub name_made : (bs : List ℕ) → ProperName bs → is_name bs ≡ true
name_made [] h = let z = h.some in absurd (omega arith)
name_made (b ∷ bs) h =
    and_from _ _ (le-leb _ 16 h.few)
    (and_from _ _ (leads_by (is_letter b) (is_digit b) (eqb b 95) ∙ letter_from b h.first) (parts_from bs (λ i l. h.each (suc i) (omega arith))))
