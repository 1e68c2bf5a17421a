-- Steps in print: where one ends, and that no two are alike.
use Rattle.std.proofs.Common.{◌≡◌, ℕ, suc, ◌+◌, ◌<◌, ◌≤◌, false, ◌||◌, cond, eqb, List, [], ◌∷◌, ◌++◌, length, get_or, take, drop, decimal, refl, ap, ◌∙◌, ⊎_elim, append_assoc, arith, length-append, ne_eqb}
use Rattle.std.specs.List.{flat_map, position_or_len}
use Rattle.std.proofs.Math.Bool.{not}
use Rattle.std.proofs.Math.Seq.{take-append_seam, drop-append_seam}
use Rattle.std.proofs.lemmas.Fmt.{decimal_injective}
use Rattle.std.proofs.lemmas.List.{append_cancel_right}
use Rattle.line.proofs.Numerals.{writes_decimal}
use Rattle.sheet_text.specs.Plain.{NamePart}
use Rattle.path.specs.Meaning.{Downward, field, element}
use Rattle.path.specs.Lawful.{Lawful}
use Rattle.path.specs.Printed.{step_text, leads}

-- a step in print behind its first byte
abbrev body : Downward → List ℕ
body (field n) = n
body (element i) = decimal i ++ (93 ∷ [])

other : (b : ℕ) → (b ≡ 46 → ⊥) → (b ≡ 91 → ⊥) → leads b ≡ false
other b h g = ap (λ t. t || eqb b 91) (ne_eqb b 46 h) ∙ ne_eqb b 91 g

no_digit : (b : ℕ) → 48 ≤ b → b ≤ 57 → leads b ≡ false
no_digit b l h = other b (λ e. omega arith) (λ e. omega arith)

name_part : (b : ℕ) → NamePart b → leads b ≡ false
name_part b h =
    ⊎_elim (λ l. ⊎_elim (λ p. other b (λ e. omega (arith, p.0)) (λ e. omega (arith, p.0))) (λ p. other b (λ e. omega (arith, p.0)) (λ e. omega (arith, p.1))) l)
    (λ q. ⊎_elim (λ d. no_digit b d.0 d.1) (λ u. other b (λ e. omega arith) (λ e. omega arith)) q)
    h

-- bytes with no such byte stand ahead of it
over : (xs rest : List ℕ) → ((k : ℕ) → k < length xs → leads (get_or xs k 0) ≡ false) → position_or_len leads (xs ++ rest) ≡ length xs + position_or_len leads rest
over [] rest h = omega arith
over (x ∷ xs) rest h =
    ap (λ t. cond (not t) (1 + position_or_len leads (xs ++ rest)) 0) (h 0 (omega arith))
    ∙ omega (arith, over xs rest (λ k l. h (suc k) (omega arith)))

digit_over : (i : ℕ) (rest : List ℕ) → i ≤ 65534 → position_or_len leads (decimal i ++ rest) ≡ length (decimal i) + position_or_len leads rest
digit_over i rest h =
    let w = writes_decimal i (omega arith) in
    over (decimal i) rest (λ k l. let d = w.digits k l in no_digit _ d.0 d.1)

body_over : (d : Downward) (rest : List ℕ) → Lawful d → position_or_len leads (body d ++ rest) ≡ length (body d) + position_or_len leads rest
body_over (field n) rest h = over n rest (λ k l. name_part _ (h.each k l))
body_over (element i) rest h =
    ap (position_or_len leads) (append_assoc (decimal i) (93 ∷ []) rest) ∙ digit_over i (93 ∷ rest) h
    ∙ omega (arith, length-append (decimal i) (93 ∷ []))

stops_at : (ds : List Downward) → position_or_len leads (flat_map step_text ds) ≡ 0
stops_at [] = refl
stops_at (field n ∷ ds) = refl
stops_at (element i ∷ ds) = refl

whole : (d : Downward) (rest : List ℕ) → drop 1 (step_text d ++ rest) ≡ body d ++ rest
whole (field n) rest = refl
whole (element i) rest = refl

step_size : (d : Downward) → 1 + length (body d) ≡ length (step_text d)
step_size (field n) = omega arith
step_size (element i) = omega arith

-- the step in front ends where the next one begins
module _ (d : Downward) (ds : List Downward) (h : Lawful d) where
  abbrev front : List ℕ
  front = flat_map step_text (d ∷ ds)

  size : 1 + position_or_len leads (drop 1 front) ≡ length (step_text d)
  size =
      let e = ap (position_or_len leads) (whole d (flat_map step_text ds)) ∙ body_over d (flat_map step_text ds) h in
      omega (arith, e, stops_at ds, step_size d)

  pub first_step : take (1 + position_or_len leads (drop 1 front)) front ≡ step_text d
  first_step = ap (λ n. take n front) size ∙ take-append_seam (step_text d) (flat_map step_text ds)

  pub later_steps : drop (1 + position_or_len leads (drop 1 front)) front ≡ flat_map step_text ds
  later_steps = ap (λ n. drop n front) size ∙ drop-append_seam (step_text d) (flat_map step_text ds)

-- no two steps are alike in print
pub step_injective : (d e : Downward) → Lawful d → Lawful e → step_text d ≡ step_text e → d ≡ e
step_injective (field m) (field n) g h q = ap (λ t. field (drop 1 t)) q
step_injective (field m) (element j) g h q = absurd (omega (arith, ap (λ t. get_or t 0 0) q))
step_injective (element i) (field n) g h q = absurd (omega (arith, ap (λ t. get_or t 0 0) q))
step_injective (element i) (element j) g h q =
    ap element (decimal_injective i j (omega arith) (omega arith) (append_cancel_right (decimal i) (decimal j) (93 ∷ []) (ap (drop 1) q)))
