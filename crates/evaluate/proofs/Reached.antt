-- A path that grows by a step.
use Rattle.std.proofs.Common.{◌≡◌, ℕ, zero, suc, ◌≤◌, Bool, true, false, cond, ◌&&◌, ltb, List, [], ◌∷◌, ◌++◌, map, length, take, Some, None, Option, sym, refl, ap, ◌∙◌, subst, ap₂, append_assoc, append-nil, arith, length-append}
use Rattle.std.proofs.lemmas.Bool.{cond-false, lt-ltb, le-leb, and_parts, ltb-true}
use Rattle.path.specs.declared.Step.{Step}
use Rattle.path.specs.declared.Step.TheVariants.{Field, Index}
use Rattle.path.specs.declared.Path.{Path}
use Rattle.path.specs.Meaning.{Downward, field, step_of, path_of}
use Rattle.sheet_text.specs.Chars.{is_name}
use Rattle.sheet_text.specs.Plain.{ProperName}
use Rattle.sheet_text.proofs.Plain.{name_is}
use Rattle.std.proofs.lemmas.Bool.{false_from_ne_true}
use Rattle.path.proofs.Laws.{lawful_path}
use Rattle.evaluate.specs.Reaches.{fits, push, extend}

pub fits_step : (s : Step) → fits (step_of s) ≡ true
fits_step (Field n) = n.proper
fits_step (Index i) = le-leb _ _ i.small

pub path_short : (p : Path) → length (path_of p) ≤ 8
path_short p = (lawful_path p).few

and_false : (a : Bool) → (a && false) ≡ false
and_false true = refl
and_false false = refl

pub push_unfit : (P : Option (List Downward)) (d : Downward) → fits d ≡ false → push P d ≡ None
push_unfit None d h = refl
push_unfit (Some P) d h = cond-false _ _ _ (ap (λ b. ltb (length P) 8 && b) h ∙ and_false (ltb (length P) 8))

-- bytes that are no name lead nowhere
pub no_name : (n : List ℕ) → (ProperName n → ⊥) → fits (field n) ≡ false
no_name n h = false_from_ne_true (is_name n) (λ e. h (name_is n e))

-- every step of a path fits
abbrev pub AllFit : List Downward → Type 0
AllFit [] = Unit
AllFit (d ∷ ds) = (fits d ≡ true) × AllFit ds

all_fit : (xs : List Step) (n : ℕ) → AllFit (map step_of (take n xs))
all_fit xs zero = tt
all_fit [] (suc n) = tt
all_fit (x ∷ xs) (suc n) = (fits_step x, all_fit xs n)

pub path_fits : (p : Path) → AllFit (path_of p)
path_fits p = all_fit p.steps p.len

behind_fit : (P : List Downward) (d : Downward) (q : List Downward) → AllFit (P ++ (d ∷ q)) → fits d ≡ true
behind_fit [] d q h = h.0
behind_fit (x ∷ P) d q h = behind_fit P d q h.1

extend_none : (q : List Downward) → extend None q ≡ None
extend_none [] = refl
extend_none (d ∷ q) = extend_none q

-- what is reached is that path, or no path is
abbrev pub Reached : List Downward → Option (List Downward) → Type 0
Reached W None = AllFit W → length W ≤ 8 → ⊥
Reached W (Some x) = x ≡ W

pub reached : (P q : List Downward) → length P ≤ 8 → Reached (P ++ q) (extend (Some P) q)
reached P [] h = sym (append-nil P)
reached P (d ∷ q) h = go (ltb (length P) 8 && fits d) refl (λ l. reached (P ++ (d ∷ [])) q l)
  where
    go : (b : Bool) → (ltb (length P) 8 && fits d) ≡ b
        → (length (P ++ (d ∷ [])) ≤ 8 → Reached ((P ++ (d ∷ [])) ++ q) (extend (Some (P ++ (d ∷ []))) q))
        → Reached (P ++ (d ∷ q)) (extend (cond b (Some (P ++ (d ∷ []))) None) q)
    go true e step =
        let l = ltb-true (length P) 8 (and_parts (ltb (length P) 8) (fits d) e).0 in
        subst (λ W. Reached W (extend (Some (P ++ (d ∷ []))) q)) (append_assoc P (d ∷ []) q) (step (omega (arith, length-append P (d ∷ []))))
    go false e step =
        subst (Reached (P ++ (d ∷ q))) (sym (extend_none q))
        (λ f l.
        let m = lt-ltb (length P) 8 (omega (arith, length-append P (d ∷ q))) in
        let s : false ≡ true = sym e ∙ ap₂ ◌&&◌ m (behind_fit P d q f) in
        absurd (let z : ◌≡◌ {A = ℕ} 0 1 = cc in omega arith))
