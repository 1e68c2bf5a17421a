use Rattle.std.proofs.Common.{◌≡◌, ℕ, suc, ◌≤◌, true, false, List, [], ◌∷◌, ◌++◌, sym, refl}
use Rattle.std.proofs.Common.{◌∙◌, append_assoc, append-nil, arith}
use Rattle.path.specs.Meaning.{Downward, field, element}
use Rattle.meaning.specs.Terms.{Name, Path, PieceSpec, Ty, Fields}
use Rattle.meaning.specs.Values.{Message, known}
use Rattle.meaning.specs.Layouts.{◌▸◌, Layout, base', rec', arr', alt', LayFields, none', fld'}
use Rattle.meaning.specs.Layouts.{LayElements, done', elem'}
use Rattle.laws.specs.Distinct.{Apart, Distinct}
use Rattle.laws.specs.Stops.{Stops, barred', void', count', many', truth', StopsFields, here'}
use Rattle.laws.specs.Stops.{later', StopsElements, at', behind'}
use Rattle.laws.specs.Stops as stop
use Rattle.laws.proofs.Named.{Fresh, Named, NamedFields}
use Rattle.meaning.specs.Bars.{Bars}
use Rattle.meaning.specs.declared.fault.LayFault.{LayFault}

same_rest : (P s t : Path) → P ++ s ≡ P ++ t → s ≡ t
same_rest [] s t e = e
same_rest (x ∷ P) s t e = same_rest P s t cc

-- every piece is at Q or below it
abbrev Below : Path → List PieceSpec → Type 0
Below Q [] = Unit
Below Q (p ∷ ps) = ((s : Path) × (p.path ≡ Q ++ s)) × Below Q ps

-- every piece is below P, by a first step of which S holds
abbrev Heads : Path → (Downward → Type 0) → List PieceSpec → Type 0
Heads P S [] = Unit
Heads P S (p ∷ ps) = ((x : Downward) × (s : Path) × (p.path ≡ P ++ (x ∷ s)) × S x) × Heads P S ps

below_append : (Q : Path) (T U : List PieceSpec) → Below Q T → Below Q U → Below Q (T ++ U)
below_append Q [] U h k = k
below_append Q (p ∷ T) U h k = (h.0, below_append Q T U h.1 k)

heads_append : (P : Path) (S : Downward → Type 0) (T U : List PieceSpec) → Heads P S T → Heads P S U
    → Heads P S (T ++ U)
heads_append P S [] U h k = k
heads_append P S (p ∷ T) U h k = (h.0, heads_append P S T U h.1 k)

heads_below : (P : Path) (S : Downward → Type 0) (T : List PieceSpec) → Heads P S T → Below P T
heads_below P S [] h = tt
heads_below P S (p ∷ T) h = ((h.0.0 ∷ h.0.1, h.0.2), heads_below P S T h.1)

below_heads : (P : Path) (x : Downward) (S : Downward → Type 0) (T : List PieceSpec) → S x
    → Below (P ▸ x) T → Heads P S T
below_heads P x S [] h k = tt
below_heads P x S (p ∷ T) h k =
    ((x, k.0.0, k.0.1 ∙ append_assoc P (x ∷ []) k.0.0, h), below_heads P x S T h k.1)

weaker : (P : Path) (S S' : Downward → Type 0) (T : List PieceSpec) → ((x : Downward) → S x → S' x)
    → Heads P S T → Heads P S' T
weaker P S S' [] f h = tt
weaker P S S' (p ∷ T) f h = ((h.0.0, h.0.1, h.0.2, f h.0.0 h.0.3), weaker P S S' T f h.1)

apart_append : (q : Path) (T U : List PieceSpec) → Apart q T → Apart q U → Apart q (T ++ U)
apart_append q [] U h k = k
apart_append q (p ∷ T) U h k = (h.0, apart_append q T U h.1 k)

first_step : (P : Path) (x y : Downward) (s t : Path) → P ++ (x ∷ s) ≡ P ++ (y ∷ t) → x ≡ y
first_step P x y s t e = let g = same_rest P (x ∷ s) (y ∷ t) e in cc

apart_heads : (P : Path) (x : Downward) (s q : Path) (S : Downward → Type 0) (U : List PieceSpec)
    → q ≡ P ++ (x ∷ s)
    → ((y : Downward) → S y → ¬ (x ≡ y)) → Heads P S U → Apart q U
apart_heads P x s q S [] e f h = tt
apart_heads P x s q S (p ∷ U) e f h = (
  (λ g. f h.0.0 h.0.3 (first_step P x h.0.0 s h.0.1 (sym e ∙ g ∙ h.0.2))),
  apart_heads P x s q S U e f h.1,
)

distinct_append : (P : Path) (S S' : Downward → Type 0) (T U : List PieceSpec) → Heads P S T
    → Heads P S' U
    → ((x y : Downward) → S x → S' y → ¬ (x ≡ y)) → Distinct T → Distinct U → Distinct (T ++ U)
distinct_append P S S' [] U h k f d e = e
distinct_append P S S' (p ∷ T) U h k f d e = (
  apart_append p.path T U d.0
      (apart_heads P h.0.0 h.0.1 p.path S' U h.0.2 (λ y. f h.0.0 y h.0.3) k),
  distinct_append P S S' T U h.1 k f d.1 e,
)

-- a field of another name; an element from i on
abbrev Other : Name → Downward → Type 0
Other n y = (m : Name) × (y ≡ field m) × ¬ (n ≡ m)

abbrev From : ℕ → Downward → Type 0
From i y = (j : ℕ) × (y ≡ element j) × (i ≤ j)

module _ {m : Message} where
  mutual
    below : {τ : Ty} {P : Path} {open' : List Path} {A T : List PieceSpec} → Layout m τ P open' A T
        → Below P T
    below (base' {P = P} h) = (([], sym (append-nil P)), tt)
    below (rec' f) = fields_below f
    below (arr' {P = P} {T = T} known few f) = heads_below P (From 0) T (elements_heads f)
    below (alt' known f) = below f

    fields_below : {fs : Fields} {P : Path} {open' : List Path} {A T : List PieceSpec}
        → LayFields m fs P open' A T → Below P T
    fields_below none' = tt
    fields_below (fld' {n = n} {P = P} {T = T} {U = U} f fs) =
        below_append P T U
        (heads_below P (λ x. Unit) T (below_heads P (field n) (λ x. Unit) T tt (below f)))
        (fields_below fs)

    elements_heads : {τ : Ty} {P : Path} {open' : List Path} {i k : ℕ} {A T : List PieceSpec}
        → LayElements m τ P open' i k A T → Heads P (From i) T
    elements_heads done' = tt
    elements_heads (elem' {P = P} {i = i} {T = T} {U = U} f fs) =
        heads_append P (From i) T U
        (below_heads P (element i) (From i) T (i, refl, omega arith) (below f))
        (weaker P (From (suc i)) (From i) U (λ x h. (h.0, h.1, omega (arith, h.2)))
        (elements_heads fs))

  fields_heads : {fs : Fields} {P : Path} {open' : List Path} {A T : List PieceSpec} (n : Name)
      → LayFields m fs P open' A T → Fresh n fs → Heads P (Other n) T
  fields_heads n none' h = tt
  fields_heads n (fld' {n = m} {P = P} {T = T} {U = U} f fs) h =
      heads_append P (Other n) T U (below_heads P (field m) (Other n) T (m, refl, h.0) (below f))
      (fields_heads n fs h.1)

  mutual
    pub distinct : {τ : Ty} {P : Path} {open' : List Path} {A T : List PieceSpec}
        → Layout m τ P open' A T → Named τ → Distinct T
    distinct (base' h) n = (tt, tt)
    distinct (rec' f) n = fields_distinct f n
    distinct (arr' known few f) n = elements_distinct f n
    distinct (alt' {b = true} known f) n = distinct f n.0
    distinct (alt' {b = false} known f) n = distinct f n.1

    fields_distinct : {fs : Fields} {P : Path} {open' : List Path} {A T : List PieceSpec}
        → LayFields m fs P open' A T → NamedFields fs → Distinct T
    fields_distinct none' n = tt
    fields_distinct (fld' {n = m} {P = P} {T = T} {U = U} f fs) n =
        distinct_append P (λ x. x ≡ field m) (Other m) T U
        (below_heads P (field m) (λ x. x ≡ field m) T refl (below f)) (fields_heads m fs n.1)
        (λ x y a b e. b.2 (let g = b.1 in cc)) (distinct f n.0) (fields_distinct fs n.2)

    elements_distinct : {τ : Ty} {P : Path} {open' : List Path} {i k : ℕ} {A T : List PieceSpec}
        → LayElements m τ P open' i k A T → Named τ → Distinct T
    elements_distinct done' n = tt
    elements_distinct (elem' {P = P} {i = i} {T = T} {U = U} f fs) n =
        distinct_append P (λ x. x ≡ element i) (From (suc i)) T U
        (below_heads P (element i) (λ x. x ≡ element i) T refl (below f)) (elements_heads fs)
        (λ x y a b e. let g = b.1 in let same : i ≡ b.0 = cc in omega (arith, b.2)) (distinct f n)
        (elements_distinct fs n)

-- the same of what is placed where laying stops
module _ {m : Message} {bars : Bars} where
  mutual
    below_stop : {τ : Ty} {P : Path} {open' : List Path} {A T : List PieceSpec} {e : LayFault}
        {s : ℕ} → Stops m bars τ P open' A T e s → Below P T
    below_stop (barred' h) = tt
    below_stop void' = tt
    below_stop (count' q) = tt
    below_stop (many' q h) = tt
    below_stop (truth' q) = tt
    below_stop (stop.rec' f) = fields_below_stop f
    below_stop (stop.arr' {P = P} {T = T} q few f) =
        heads_below P (From 0) T (elements_heads_stop f)
    below_stop (stop.alt' q f) = below_stop f

    fields_below_stop : {fs : Fields} {P : Path} {open' : List Path} {A T : List PieceSpec}
        {e : LayFault} {s : ℕ} → StopsFields m bars fs P open' A T e s → Below P T
    fields_below_stop (here' {n = n} {P = P} {T = T} f) =
        heads_below P (λ x. Unit) T (below_heads P (field n) (λ x. Unit) T tt (below_stop f))
    fields_below_stop (later' {n = n} {P = P} {T = T} {U = U} f fits fs) =
        below_append P T U
        (heads_below P (λ x. Unit) T (below_heads P (field n) (λ x. Unit) T tt (below f)))
        (fields_below_stop fs)

    elements_heads_stop : {τ : Ty} {P : Path} {open' : List Path} {i k : ℕ} {A T : List PieceSpec}
        {e : LayFault} {s : ℕ} → StopsElements m bars τ P open' i k A T e s → Heads P (From i) T
    elements_heads_stop (at' {P = P} {i = i} {T = T} f) =
        below_heads P (element i) (From i) T (i, refl, omega arith) (below_stop f)
    elements_heads_stop (behind' {P = P} {i = i} {T = T} {U = U} f fits fs) =
        heads_append P (From i) T U
        (below_heads P (element i) (From i) T (i, refl, omega arith) (below f))
        (weaker P (From (suc i)) (From i) U (λ x h. (h.0, h.1, omega (arith, h.2)))
        (elements_heads_stop fs))

  fields_heads_stop : {fs : Fields} {P : Path} {open' : List Path} {A T : List PieceSpec}
      {e : LayFault} {s : ℕ} (n : Name) → StopsFields m bars fs P open' A T e s → Fresh n fs
      → Heads P (Other n) T
  fields_heads_stop n (here' {n = m} {P = P} {T = T} f) h =
      below_heads P (field m) (Other n) T (m, refl, h.0) (below_stop f)
  fields_heads_stop n (later' {n = m} {P = P} {T = T} {U = U} f fits fs) h =
      heads_append P (Other n) T U (below_heads P (field m) (Other n) T (m, refl, h.0) (below f))
      (fields_heads_stop n fs h.1)

  mutual
    pub distinct_stop : {τ : Ty} {P : Path} {open' : List Path} {A T : List PieceSpec}
        {e : LayFault} {s : ℕ} → Stops m bars τ P open' A T e s → Named τ → Distinct T
    distinct_stop (barred' h) n = tt
    distinct_stop void' n = tt
    distinct_stop (count' q) n = tt
    distinct_stop (many' q h) n = tt
    distinct_stop (truth' q) n = tt
    distinct_stop (stop.rec' f) n = fields_distinct_stop f n
    distinct_stop (stop.arr' q few f) n = elements_distinct_stop f n
    distinct_stop (stop.alt' {b = true} q f) n = distinct_stop f n.0
    distinct_stop (stop.alt' {b = false} q f) n = distinct_stop f n.1

    fields_distinct_stop : {fs : Fields} {P : Path} {open' : List Path} {A T : List PieceSpec}
        {e : LayFault} {s : ℕ} → StopsFields m bars fs P open' A T e s → NamedFields fs → Distinct T
    fields_distinct_stop (here' f) n = distinct_stop f n.0
    fields_distinct_stop (later' {n = m} {P = P} {T = T} {U = U} f fits fs) n =
        distinct_append P (λ x. x ≡ field m) (Other m) T U
        (below_heads P (field m) (λ x. x ≡ field m) T refl (below f))
        (fields_heads_stop m fs n.1)
        (λ x y a b e. b.2 (let g = b.1 in cc)) (distinct f n.0) (fields_distinct_stop fs n.2)

    elements_distinct_stop : {τ : Ty} {P : Path} {open' : List Path} {i k : ℕ}
        {A T : List PieceSpec} {e : LayFault} {s : ℕ} → StopsElements m bars τ P open' i k A T e s
        → Named τ → Distinct T
    elements_distinct_stop (at' f) n = distinct_stop f n
    elements_distinct_stop (behind' {P = P} {i = i} {T = T} {U = U} f fits fs) n =
        distinct_append P (λ x. x ≡ element i) (From (suc i)) T U
        (below_heads P (element i) (λ x. x ≡ element i) T refl (below f))
        (elements_heads_stop fs)
        (λ x y a b e. let g = b.1 in let same : i ≡ b.0 = cc in omega (arith, b.2)) (distinct f n)
        (elements_distinct_stop fs n)
