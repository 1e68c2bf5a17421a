-- From the cuts that were made to the parts.
use Rattle.std.specs.Cmp.Lexicographic.{pointwise}
use Rattle.std.proofs.Common.{MatchOption, unwrap_or, ◌≡◌, ℕ, ◌+◌, ◌-◌, ◌≤◌, Bool, true, false, cond, List, [], ◌∷◌, length, get_or, take, drop, Some, None, Option, eqb, Bor, sym, refl, ap, ◌∙◌, arith, length-drop, length-take}
use Rattle.std.proofs.Math.Bool.{and-true}
use Rattle.std.proofs.lemmas.List.{drop-drop, drop_more, drop_all}
use Rattle.input.proofs.Firsts.{none_behind}
use Rattle.input.specs.Parts.{is_feed, empty_at, trimmed, limited, capture_text}

-- whether a text ends with a line feed
ends : (t : List ℕ) → pointwise eqb (drop (length t - 1) t) (10 ∷ []) ≡ is_feed (get_or t (length t - 1) 0)
ends [] = refl
ends (b ∷ bs) =
    let t = b ∷ bs in
    let n = length t - 1 in
    ap (λ l. pointwise eqb l (10 ∷ [])) (drop_more t n 0 (omega arith) ∙ ap (λ l. get_or t n 0 ∷ l) (drop_all (n + 1) t (omega arith)))
    ∙ and-true (is_feed (get_or t n 0))

-- a text without the line feed at its end, if it has one
pub trims : (t o : Bor (List ℕ)) (r : Option (Bor (List ℕ))) → o ≡ unwrap_or r t
    → MatchOption r (pointwise eqb (drop (length t.now - 1) t.now) (10 ∷ []) ≡ false)
    (λ x. (pointwise eqb (drop (length t.now - 1) t.now) (10 ∷ []) ≡ true) × (x.now ≡ take (length t.now - 1) t.now) × (length x.now + 1 ≡ length t.now))
    → o.now ≡ trimmed t.now
trims t o None e h = ap (λ b. b.now) e ∙ ap (λ b. cond b (take (length t.now - 1) t.now) t.now) (sym h ∙ ends t.now)
trims t o (Some x) e h = ap (λ b. b.now) e ∙ h.1 ∙ ap (λ b. cond b (take (length t.now - 1) t.now) t.now) (sym h.0 ∙ ends t.now)

-- what stands behind the line feed of the first empty line
pub behind_cut : (t : List ℕ) (rest o : Bor (List ℕ)) (r : Option (Bor (List ℕ))) → rest.now ≡ drop (empty_at true t) t → o ≡ unwrap_or r rest
    → MatchOption r (pointwise eqb (take 1 rest.now) (10 ∷ []) ≡ false)
    (λ x. (pointwise eqb (take 1 rest.now) (10 ∷ []) ≡ true) × (x.now ≡ drop 1 rest.now) × (length x.now + 1 ≡ length rest.now))
    → o.now ≡ drop (empty_at true t + 1) t
behind_cut t rest o None at e h = ap (λ b. b.now) e ∙ at ∙ none_behind t (sym (ap (λ l. pointwise eqb (take 1 l) (10 ∷ [])) at) ∙ h)
behind_cut t rest o (Some x) at e h = ap (λ b. b.now) e ∙ h.1 ∙ ap (drop 1) at ∙ drop-drop 1 (empty_at true t) t

trimmed_short : (t : List ℕ) → length (trimmed t) ≤ length t
trimmed_short t = by_feed (is_feed (get_or t (length t - 1) 0))
  where
    by_feed : (b : Bool) → length (cond b (take (length t - 1) t) t) ≤ length t
    by_feed true = omega (arith, length-take (length t - 1) t)
    by_feed false = omega arith

pub capture_short : (bs : List ℕ) → length (capture_text bs) ≤ 60000
unfolding limited capture_text
capture_short bs =
    let t = take 60000 bs in
    let n = empty_at true t + 1 in
    omega (arith, trimmed_short (drop n t), length-drop n t, length-take 60000 bs)
