-- Quiet types place nothing.
use Rattle.std.proofs.Common.{◌≡◌, ℕ, zero, suc, ◌+◌, ◌*◌, ◌≤◌, Bool, true, false, ◌&&◌, ◌||◌, ◌==◌}
use Rattle.std.proofs.Common.{leb, ltb, List, [], ◌∷◌, ◌++◌, length, Option, Ok, sym, refl, ap, ap₂}
use Rattle.std.proofs.Common.{◌∙◌, arith, leb-true}
use Rattle.std.proofs.Math.Bool
use Rattle.std.proofs.lemmas.Bool.{and_parts}
use Rattle.path.specs.Meaning.{field, element}
use Rattle.meaning.specs.Terms.{Path, PieceSpec, Number}
use Rattle.meaning.specs.Terms.{Num, no_number, lit, loc, add, mul, Steps, no_steps, end, dot, idx}
use Rattle.meaning.specs.Terms.{Truth, no_truth, yea, nay, bloc, not, both, either, eq, lt}
use Rattle.meaning.specs.Terms.{Ty, Fields}
use Rattle.meaning.specs.Values.{Outcome, ◌then◌, limited, placed, located, Message, number}
use Rattle.meaning.specs.Values.{resolved, truth}
use Rattle.meaning.specs.Layouts.{◌▸◌}
use Rattle.meaning.specs.Matcher.{Laid, accepted, repeated, lay, lay_fields}
use Rattle.laws.specs.Quiet.{far, far_steps, far_truth, Quiet, rec', arr₀, arr', alt', QuietFields}
use Rattle.laws.specs.Quiet.{none', fld', QuietPasses}
use Rattle.laws.proofs.Complete.{onward_step, many_step, needed_step}
use Rattle.meaning.specs.Bars.{Bars}
use Rattle.meaning.specs.Values.{known, element_of}
use Rattle.std.specs.List.{slice_get}

-- a climb that leads further out than as many records
climbed_out : (I J O : List Path) (c : ℕ) → length I ≡ length J → length I ≤ c
    → slice_get (I ++ O) c ≡ slice_get (J ++ O) c
climbed_out [] [] O c e h = refl
climbed_out [] (q ∷ J) O c e h = absurd (omega arith)
climbed_out (p ∷ I) [] O c e h = absurd (omega arith)
climbed_out (p ∷ I) (q ∷ J) O zero e h = absurd (omega arith)
climbed_out (p ∷ I) (q ∷ J) O (suc c) e h = climbed_out I J O c (omega arith) (omega arith)

-- Values that look further out than the records inside do not depend on these.
module _ (m : Message) (A : List PieceSpec) (I J O : List Path)
    (as_many : length I ≡ length J) where
  located_out : (c : ℕ) (q q' : Outcome Path) → leb (length I) c ≡ true → q ≡ q'
      → located A (I ++ O) c q ≡ located A (J ++ O) c q'
  located_out c q q' h e =
      ap (λ (z : Option Path). known z then λ P. q then λ x. placed A (P ++ x))
      (climbed_out I J O c as_many (leb-true (length I) c h))
      ∙ ap (λ (z : Outcome Path). known (slice_get (J ++ O) c) then λ P. z then λ x.
      placed A (P ++ x)) e

  mutual
    pub number_out : (n : Num) → far (length I) n ≡ true
        → number m A (I ++ O) n ≡ number m A (J ++ O) n
    number_out no_number h = refl
    number_out (lit k) h = refl
    number_out (loc c s) h =
        let p = and_parts (leb (length I) c) (far_steps (length I) s) h in
        ap (λ (z : Outcome PieceSpec). z then m.piece_number)
        (located_out c _ _ p.0 (resolved_out s p.1))
    number_out (add a b) h =
        let p = and_parts (far (length I) a) (far (length I) b) h in
        ap₂ (λ (u v : Outcome Number). u then λ x. v then λ y. limited (x + y)) (number_out a p.0)
        (number_out b p.1)
    number_out (mul a b) h =
        let p = and_parts (far (length I) a) (far (length I) b) h in
        ap₂ (λ (u v : Outcome Number). u then λ x. v then λ y. limited (x * y)) (number_out a p.0)
        (number_out b p.1)

    resolved_out : (s : Steps) → far_steps (length I) s ≡ true
        → resolved m A (I ++ O) s ≡ resolved m A (J ++ O) s
    resolved_out no_steps h = refl
    resolved_out end h = refl
    resolved_out (dot k s) h = ap (λ (z : Outcome Path). z then λ q. Ok (field k ∷ q))
        (resolved_out s h)
    resolved_out (idx n s) h =
        let p = and_parts (far (length I) n) (far_steps (length I) s) h in
        ap₂ (λ (u : Outcome Number) (v : Outcome Path). u then λ i. v then λ q.
        Ok (element_of i ∷ q)) (number_out n p.0) (resolved_out s p.1)

  pub truth_out : (t : Truth) → far_truth (length I) t ≡ true
      → truth m A (I ++ O) t ≡ truth m A (J ++ O) t
  truth_out no_truth h = refl
  truth_out yea h = refl
  truth_out nay h = refl
  truth_out (bloc c s) h =
      let p = and_parts (leb (length I) c) (far_steps (length I) s) h in
      ap (λ (z : Outcome PieceSpec). z then m.piece_truth)
      (located_out c _ _ p.0 (resolved_out s p.1))
  truth_out (not t) h = ap (λ (z : Outcome Bool). z then λ b. Ok (Bool.not b)) (truth_out t h)
  truth_out (both t u) h =
      let p = and_parts (far_truth (length I) t) (far_truth (length I) u) h in
      ap₂ (λ (u v : Outcome Bool). u then λ a. v then λ b. Ok (a && b)) (truth_out t p.0)
      (truth_out u p.1)
  truth_out (either t u) h =
      let p = and_parts (far_truth (length I) t) (far_truth (length I) u) h in
      ap₂ (λ (u v : Outcome Bool). u then λ a. v then λ b. Ok (a || b)) (truth_out t p.0)
      (truth_out u p.1)
  truth_out (eq a b) h =
      let p = and_parts (far (length I) a) (far (length I) b) h in
      ap₂ (λ (u v : Outcome Number). u then λ x. v then λ y. Ok (x == y)) (number_out a p.0)
      (number_out b p.1)
  truth_out (lt a b) h =
      let p = and_parts (far (length I) a) (far (length I) b) h in
      ap₂ (λ (u v : Outcome Number). u then λ x. v then λ y. Ok (ltb x y)) (number_out a p.0)
      (number_out b p.1)

-- elements that place nothing
pub none_placed : (f : ℕ → List PieceSpec → Laid) (A : List PieceSpec)
    → ((j : ℕ) → f j A ≡ accepted A) → (i k : ℕ) → repeated f i k A ≡ accepted A
none_placed f A h i zero = refl
none_placed f A h i (suc k) = onward_step (f i A) (repeated f (suc i) k) A _ (h i)
    (none_placed f A h (suc i) k)

module _ (m : Message) (bars : Bars) (A : List PieceSpec) (O : List Path) where
  valued : {k : ℕ} (I J : List Path) → k ≡ length I → length J ≡ k → (n : Num) → far k n ≡ true
      → number m A (I ++ O) n ≡ number m A (J ++ O) n
  valued I J e l n h = number_out m A I J O (sym e ∙ sym l) n (ap (λ k. far k n) (sym e) ∙ h)

  told : {k : ℕ} (I J : List Path) → k ≡ length I → length J ≡ k → (t : Truth)
      → far_truth k t ≡ true → truth m A (I ++ O) t ≡ truth m A (J ++ O) t
  told I J e l t h = truth_out m A I J O (sym e ∙ sym l) t (ap (λ k. far_truth k t) (sym e) ∙ h)

  mutual
    pub quiet_passes : {k : ℕ} {τ : Ty} (I : List Path) (P : Path) → k ≡ length I → Quiet m A O k τ
        → lay m bars τ P (I ++ O) A ≡ accepted A
    quiet_passes I P e (rec' f) = quiet_fields_pass (P ∷ I) P (ap suc e) f
    quiet_passes I P e (arr₀ {r = r} {n = n} J l h v none) =
        needed_step _ r A _ _ _ (valued I J e l n h ∙ v) (many_step _ r A _ 0 _ none refl)
    quiet_passes I P e (arr' {r = r} {n = n} {τ = τ} {d = d} J l h v few q) =
        needed_step _ r A _ _ _ (valued I J e l n h ∙ v)
        (many_step _ r A _ d _ few
        (none_placed (λ i B. lay m bars τ (P ▸ element i) (I ++ O) B) A
        (λ i. quiet_passes I (P ▸ element i) e q) 0 d))
    quiet_passes I P e (alt' {r = r} {t = t} {b = true} J l h v q) =
        needed_step _ r A _ true _ (told I J e l t h ∙ v) (quiet_passes I P e q)
    quiet_passes I P e (alt' {r = r} {t = t} {b = false} J l h v q) =
        needed_step _ r A _ false _ (told I J e l t h ∙ v) (quiet_passes I P e q)

    pub quiet_fields_pass : {k : ℕ} {fs : Fields} (I : List Path) (P : Path) → k ≡ length I
        → QuietFields m A O k fs
        → lay_fields m bars fs P (I ++ O) A ≡ accepted A
    quiet_fields_pass I P e none' = refl
    quiet_fields_pass I P e (fld' {n = n} q f) =
        onward_step _ _ A _ (quiet_passes I (P ▸ field n) e q) (quiet_fields_pass I P e f)

pub quiet_types_pass : QuietPasses
quiet_types_pass m bars A I O τ P q = quiet_passes m bars A O I P refl q
