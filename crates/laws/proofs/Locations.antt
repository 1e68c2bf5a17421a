use Rattle.std.proofs.Common.{◌≡◌, ℕ, zero, suc, Bool, true, false, cond, List, [], ◌∷◌, ◌++◌, Some}
use Rattle.std.proofs.Common.{None, Option, Ok, sym, refl, ap, ◌∙◌, subst, arith}
use Rattle.std.specs.Prelude.{Contains}
use Rattle.std.proofs.lemmas.Bool.{false_from_ne_true}
use Rattle.path.specs.Meaning.{same_path}
use Rattle.path.specs.Equal.{path_decides}
use Rattle.list.specs.Contents.{or_else, last_of}
use Rattle.meaning.specs.Terms.{Path, PieceSpec}
use Rattle.meaning.specs.Values.{known}
use Rattle.laws.specs.Distinct.{Apart, Distinct}
use Rattle.laws.specs.Locations.{NamesOne, LocationsName}
use Rattle.laws.proofs.Naming.{paths_differ, paths_differ_ahead}

apart_front : (q : Path) (A B : List PieceSpec) → Apart q (A ++ B) → Apart q A
apart_front q [] B h = tt
apart_front q (p ∷ A) B h = (h.0, apart_front q A B h.1)

distinct_front : (A B : List PieceSpec) → Distinct (A ++ B) → Distinct A
distinct_front [] B h = tt
distinct_front (p ∷ A) B h = (apart_front p.path A B h.0, distinct_front A B h.1)

-- the last piece with a path, where paths differ
abbrev at : Path → List PieceSpec → Option PieceSpec
at q A = last_of (λ p. same_path p.path q) A

at_apart : (A : List PieceSpec) (q : Path) → Apart q A → at q A ≡ None
at_apart [] q h = refl
at_apart (p ∷ A) q h =
    ap (λ x. or_else x (cond (same_path p.path q) (Some p) None)) (at_apart A q h.1)
    ∙ ap (λ b. cond b (Some p) None)
    (false_from_ne_true (same_path p.path q) (λ e. h.0 (sym ((path_decides p.path q).0 e))))

at_first : (p : PieceSpec) (A : List PieceSpec) (q : Path) → Apart p.path A → p.path ≡ q
    → at q (p ∷ A) ≡ Some p
at_first p A q h e =
    ap (λ x. or_else x (cond (same_path p.path q) (Some p) None))
    (at_apart A q (subst (λ x. Apart x A) e h))
    ∙ ap (λ b. cond b (Some p) None) ((path_decides p.path q).1 e)

names : (A : List PieceSpec) (q : Path) (p : PieceSpec) → Distinct A → Contains A p → p.path ≡ q
    → at q A ≡ Some p
names [] q p d (k, h, e) w = absurd (omega arith)
names (x ∷ A) q p d (zero, h, e) w =
    let same : x ≡ p = e in
    at_first x A q d.0 (ap (λ (y : PieceSpec). y.path) same ∙ w) ∙ ap Some same
names (x ∷ A) q p d (suc k, h, e) w =
    ap (λ y. or_else y (cond (same_path x.path q) (Some x) None))
    (names A q p d.1 (k, omega arith, e) w)

named_by : (x : PieceSpec) (A : List PieceSpec) (q : Path) (p : PieceSpec)
    → (at q A ≡ Some p → Contains A p × (p.path ≡ q))
    → (o : Option PieceSpec) (b : Bool) → at q A ≡ o → same_path x.path q ≡ b
    → or_else o (cond b (Some x) None) ≡ Some p
    → Contains (x ∷ A) p × (p.path ≡ q)
named_by x A q p rest (Some y) b f g h =
    let ((k, i, e), w) = rest (f ∙ h) in
    ((suc k, omega arith, e), w)
named_by x A q p rest None true f g h =
    let same : x ≡ p = cc in (
      (0, omega arith, same),
      ap (λ (y : PieceSpec). y.path) (sym same)
          ∙ (path_decides x.path q).0 g,
    )
named_by x A q p rest None false f g h = absurd (let z : ◌≡◌ {A = ℕ} 0 1 = cc in omega arith)

named : (A : List PieceSpec) (q : Path) (p : PieceSpec) → at q A ≡ Some p
    → Contains A p × (p.path ≡ q)
named [] q p h = absurd (let z : ◌≡◌ {A = ℕ} 0 1 = cc in omega arith)
named (x ∷ A) q p h = named_by x A q p (named A q p) (at q A) (same_path x.path q) refl refl h

-- a piece that is known
there : (o : Option PieceSpec) (p : PieceSpec) → known o ≡ Ok p → o ≡ Some p
there (Some x) p h = let same : x ≡ p = cc in ap Some same
there None p h = absurd (let z : ◌≡◌ {A = ℕ} 0 1 = cc in omega arith)

names_one : (A : List PieceSpec) → Distinct A → NamesOne A
names_one A d q p = ((λ h. named A q p (there (at q A) p h)), λ h. ap known (names A q p d h.0 h.1))

pub locations_name : LocationsName
locations_name =
    record {
      distinct = names_one;
      reading = λ text rows cells A B ok r.
          names_one A (distinct_front A B (paths_differ text rows cells (A ++ B) ok r));
      stopped = λ text rows cells room e r A B ok h. names_one A
          (distinct_front A B (paths_differ_ahead text rows cells room e r (A ++ B) ok h));
    }
