use Rattle.std.proofs.Common.{◌≡◌, ℕ, true, false, List, [], ◌∷◌, ◌++◌, Some, None}
use Rattle.std.proofs.Common.{Option, Ok, refl, ap, ◌∙◌, append_assoc, append-nil}
use Rattle.path.specs.Meaning.{element}
use Rattle.meaning.specs.Terms.{Path, PieceSpec}
use Rattle.meaning.specs.Terms.{Ty, Fields}
use Rattle.meaning.specs.Values.{Outcome, Message, known}
use Rattle.meaning.specs.Layouts.{◌▸◌, piece_at, Layout, base', rec', arr', alt', LayFields, none'}
use Rattle.meaning.specs.Layouts.{fld', LayElements, done', elem'}
use Rattle.meaning.specs.Matcher.{Laid, accepted, unless, ◌onward◌, needed, repeated, lay}
use Rattle.meaning.specs.Matcher.{lay_fields}
use Rattle.meaning.specs.Bars.{Bars, Taken}
use Rattle.meaning.specs.declared.fault.LayFault.{LayFault}
use Rattle.meaning.specs.Matcher.{so_many}

pub onward_step : (x : Laid) (f : List PieceSpec → Laid) (C : List PieceSpec) (y : Laid)
    → x ≡ accepted C → f C ≡ y → x onward f ≡ y
onward_step x f C y e g = rw e g

pub needed_step : {V : Type 0} (x : Outcome V) (r : ℕ) (A : List PieceSpec) (f : V → Laid) (v : V)
    (y : Laid) → x ≡ Ok v → f v ≡ y → needed x r A f ≡ y
needed_step x r A f v y e g = rw e g

pub many_step : (o : Option ℕ) (r : ℕ) (A : List PieceSpec) (f : ℕ → Laid) (d : ℕ) (y : Laid)
    → o ≡ Some d → f d ≡ y → so_many o r A f ≡ y
many_step o r A f d y e g = rw e g

pub unless_step : (o : Option LayFault) (r : ℕ) (A : List PieceSpec) (p : PieceSpec) → o ≡ None
    → unless o r A p ≡ accepted (A ++ (p ∷ []))
unless_step o r A p e = rw e refl

pub taken_front : (bars : Bars) (A T U : List PieceSpec) → Taken bars A (T ++ U) → Taken bars A T
taken_front bars A [] U h = tt
taken_front bars A (p ∷ T) U h = (h.0, taken_front bars (A ++ (p ∷ [])) T U h.1)

pub taken_rest : (bars : Bars) (A T U : List PieceSpec) → Taken bars A (T ++ U)
    → Taken bars (A ++ T) U
taken_rest bars A [] U h = rw append-nil h
taken_rest bars A (p ∷ T) U h = rw append_assoc at (taken_rest bars (A ++ (p ∷ [])) T U h.1)

module _ (m : Message) (bars : Bars) where
  mutual
    pub complete : {τ : Ty} {P : Path} {open' : List Path} {A T : List PieceSpec}
        → Layout m τ P open' A T → Taken bars A T → lay m bars τ P open' A ≡ accepted (A ++ T)
    complete (base' {r = r} {w = w} {P = P} {A = A} inside) fits =
        unless_step _ r A (piece_at A P r w) fits.0
    complete (rec' f) fits = complete_fields f fits
    complete (arr' {r = r} {A = A} is few f) fits =
        needed_step _ r A _ _ _ is (many_step _ r A _ _ _ few (complete_elements f fits))
    complete (alt' {r = r} {A = A} {b = true} known f) fits =
        needed_step _ r A _ _ _ known (complete f fits)
    complete (alt' {r = r} {A = A} {b = false} known f) fits =
        needed_step _ r A _ _ _ known (complete f fits)

    pub complete_fields : {fs : Fields} {P : Path} {open' : List Path} {A T : List PieceSpec}
        → LayFields m fs P open' A T → Taken bars A T
        → lay_fields m bars fs P open' A ≡ accepted (A ++ T)
    complete_fields (none' {A = A}) fits = rw append-nil
    complete_fields (fld' {A = A} {T = T} {U = U} f fs) fits =
        onward_step _ _ (A ++ T) _ (complete f (taken_front bars A T U fits))
        (complete_fields fs (taken_rest bars A T U fits) ∙ ap accepted (append_assoc A T U))

    pub complete_elements : {τ : Ty} {P : Path} {open' : List Path} {i k : ℕ} {A T : List PieceSpec}
        → LayElements m τ P open' i k A T → Taken bars A T
        → repeated (λ j C. lay m bars τ (P ▸ element j) open' C) i k A ≡ accepted (A ++ T)
    complete_elements (done' {A = A}) fits = rw append-nil
    complete_elements (elem' {A = A} {T = T} {U = U} f fs) fits =
        onward_step _ _ (A ++ T) _ (complete f (taken_front bars A T U fits))
        (complete_elements fs (taken_rest bars A T U fits) ∙ ap accepted (append_assoc A T U))
