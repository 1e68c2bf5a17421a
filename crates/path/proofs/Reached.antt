-- How far a text has been read as a path.
use Rattle.std.proofs.Common.{◌≡◌, ℕ, ◌+◌, ◌<◌, List, [], ◌∷◌, ◌++◌, length, take, drop, codes, sym, refl, ap, ◌∙◌, append_assoc, append-nil, arith}
use Rattle.std.specs.List.{AllByRecursion, flat_map, position_or_len}
use Rattle.std.proofs.lemmas.List.{flat_map_more, take-append-drop}
use Rattle.path.specs.Lawful.{Lawful, LawfulPath}
use Rattle.path.specs.Meaning.{Downward, field, element}
use Rattle.path.specs.Printed.{step_text, printed, leads}
use Rattle.path.proofs.Spelling.{first_step, later_steps, step_injective}

-- the text is that of steps, of which the first ends where the next begins
pub record Next (text : List ℕ) (ts : List Downward) : Type 0 where
  pub step : Downward
  pub later : List Downward
  pub whole : ts ≡ step ∷ later
  pub lawful : Lawful step × AllByRecursion Lawful later
  pub front : take (1 + position_or_len leads (drop 1 text)) text ≡ step_text step
  pub behind : drop (1 + position_or_len leads (drop 1 text)) text ≡ flat_map step_text later

next : (text : List ℕ) → 0 < length text → (ts : List Downward) → AllByRecursion Lawful ts → flat_map step_text ts ≡ text → Next text ts
next text h [] l e = absurd (omega (arith, ap length e))
next text h (t ∷ us) l e =
    record {
      step = t;
      later = us;
      whole = refl;
      lawful = l;
      front = ap (λ x. take (1 + position_or_len leads (drop 1 x)) x) (sym e) ∙ first_step t us l.0;
      behind = ap (λ x. drop (1 + position_or_len leads (drop 1 x)) x) (sym e) ∙ later_steps t us l.0;
    }

-- what is left of a path that is the text in print
pub record Tail (rest : List ℕ) (ps ds : List Downward) : Type 0 where
  pub steps : List Downward
  pub whole : ds ≡ ps ++ steps
  pub lawful : AllByRecursion Lawful steps
  pub prints : flat_map step_text steps ≡ rest

-- the steps ps are read and the rest is not; and every path that is the text in print begins with them
pub record Reached (text rest : List ℕ) (ps : List Downward) : Type 0 where
  pub cut : printed ps ++ rest ≡ text
  pub tails : (ds : List Downward) → AllByRecursion Lawful ds → printed ds ≡ text → Tail rest ps ds

some_text : (t : Downward) (ts : List Downward) → 0 < length (flat_map step_text (t ∷ ts))
some_text (field n) ts = omega arith
some_text (element i) ts = omega arith

no_more : (ps ts ds : List Downward) → length (flat_map step_text ts) ≡ 0 → ds ≡ ps ++ ts → ps ≡ ds
no_more ps [] ds q w = sym (w ∙ append-nil ps)
no_more ps (t ∷ ts) ds q w = absurd (omega (arith, some_text t ts))

module _ (text rest : List ℕ) (ps : List Downward) (r : Reached text rest ps) where
  -- all is read: no other path is the text in print
  pub reached_only : length rest ≡ 0 → (ds : List Downward) → LawfulPath ds → printed ds ≡ text → ps ≡ ds
  reached_only e ds l p = let t = r.tails ds l.each p in no_more ps t.steps ds (ap length t.prints ∙ e) t.whole

  module _ (some : 0 < length rest) where
    abbrev size : ℕ
    size = 1 + position_or_len leads (drop 1 rest)

    after : (s : Downward) → Lawful s → step_text s ≡ take size rest → (ds : List Downward) → Tail rest ps ds → Tail (drop size rest) (ps ++ (s ∷ [])) ds
    after s l e ds t =
        let n = next rest some t.steps t.lawful t.prints in
        let same = step_injective s n.step l n.lawful.0 (e ∙ n.front) in
        record {
          steps = n.later;
          whole = t.whole ∙ ap (λ ts. ps ++ ts) (n.whole ∙ ap (λ x. x ∷ n.later) (sym same)) ∙ sym (append_assoc ps (s ∷ []) n.later);
          lawful = n.lawful.1;
          prints = sym n.behind;
        }

    -- one step more
    pub reached_more : (s : Downward) → Lawful s → step_text s ≡ take size rest → Reached text (drop size rest) (ps ++ (s ∷ []))
    reached_more s l e =
        record {
          cut = ap (λ t. t ++ drop size rest) (sym (flat_map_more step_text (codes "root") ps s))
              ∙ append_assoc (printed ps) (step_text s) (drop size rest)
              ∙ ap (λ t. printed ps ++ t) (ap (λ t. t ++ drop size rest) e ∙ take-append-drop size rest) ∙ r.cut;
          tails = λ ds ls p. after s l e ds (r.tails ds ls p);
        }

    -- no step is there
    pub reached_stuck : ((d : Downward) → Lawful d → step_text d ≡ take size rest → ⊥) → (ds : List Downward) → LawfulPath ds → printed ds ≡ text → ⊥
    reached_stuck never ds l p =
        let t = r.tails ds l.each p in
        let n = next rest some t.steps t.lawful t.prints in
        never n.step n.lawful.0 (sym n.front)
