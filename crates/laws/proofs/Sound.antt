use Rattle.std.proofs.Common.{◌≡◌, ℕ, zero, suc, Bool, true, false, cond, List, [], ◌∷◌}
use Rattle.std.proofs.Common.{◌++◌, Some, None, Option, Ok, Err, sym, refl, ap, ◌∙◌, subst}
use Rattle.std.proofs.Common.{append_assoc, append-nil, arith}
use Rattle.path.specs.Meaning.{field, element}
use Rattle.sheet_text.specs.declared.word.Base.{Base}
use Rattle.meaning.specs.Terms.{Path, PieceSpec, Truth}
use Rattle.meaning.specs.Terms.{Ty, base, void, rec, arr, alt, Fields, none, fld}
use Rattle.meaning.specs.Values.{Outcome, Message, number, truth, elements_of, known}
use Rattle.meaning.specs.Layouts.{◌▸◌, piece_at, Layout, base', rec', arr', alt', LayFields, none'}
use Rattle.meaning.specs.Layouts.{fld', LayElements, done', elem'}
use Rattle.meaning.specs.Matcher.{Laid, accepted, refused, ◌onward◌, needed, unless, repeated}
use Rattle.meaning.specs.Matcher.{put_piece, lay, lay_fields}
use Rattle.meaning.specs.Bars.{Bars, EndsWithin, Taken}
use Rattle.meaning.specs.declared.fault.LayFault.{LayFault}
use Rattle.meaning.specs.Matcher.{so_many}

-- Where a step by step run is accepted, each step is.
pub onward_accepted : (x : Laid) (f : List PieceSpec → Laid) (B : List PieceSpec)
    → x onward f ≡ accepted B → (A : List PieceSpec) × (x ≡ accepted A) × (f A ≡ accepted B)
onward_accepted (accepted A) f B e = (A, refl, e)
onward_accepted (refused c r A) f B e = absurd (let z : ◌≡◌ {A = ℕ} 0 1 = cc in omega arith)

needed_accepted : {V : Type 0} (x : Outcome V) (r : ℕ) (A : List PieceSpec) (f : V → Laid)
    (B : List PieceSpec)
    → needed x r A f ≡ accepted B → (v : V) × (x ≡ Ok v) × (f v ≡ accepted B)
needed_accepted (Ok v) r A f B e = (v, refl, e)
needed_accepted (Err e₀) r A f B e = absurd (let z : ◌≡◌ {A = ℕ} 0 1 = cc in omega arith)

many_accepted : (o : Option ℕ) (r : ℕ) (A : List PieceSpec) (f : ℕ → Laid) (B : List PieceSpec)
    → so_many o r A f ≡ accepted B → (d : ℕ) × (o ≡ Some d) × (f d ≡ accepted B)
many_accepted (Some d) r A f B e = (d, refl, e)
many_accepted None r A f B e = absurd (let z : ◌≡◌ {A = ℕ} 0 1 = cc in omega arith)

unless_accepted : (o : Option LayFault) (r : ℕ) (A : List PieceSpec) (p : PieceSpec)
    (B : List PieceSpec)
    → unless o r A p ≡ accepted B → (o ≡ None) × (B ≡ A ++ (p ∷ []))
unless_accepted None r A p B e = (refl, cc)
unless_accepted (Some c) r A p B e = absurd (let z : ◌≡◌ {A = ℕ} 0 1 = cc in omega arith)

-- what an accepted run has added to the pieces A
pub record Added (bars : Bars) (L : List PieceSpec → Type 0) (A B : List PieceSpec) : Type 0 where
  pub new : List PieceSpec
  pub all : B ≡ A ++ new
  pub is : L new
  pub taken : Taken bars A new

pub nothing_added : (bars : Bars) (L : List PieceSpec → Type 0) (A B : List PieceSpec)
    → accepted A ≡ accepted B → L [] → Added bars L A B
nothing_added bars L A B e l =
    let same : B ≡ A = cc in
    record { new = []; all = same ∙ sym (append-nil A); is = l; taken = tt }

pub taken_append : (bars : Bars) (A T U : List PieceSpec) → Taken bars A T → Taken bars (A ++ T) U
    → Taken bars A (T ++ U)
taken_append bars A [] U h k = rw append-nil at k
taken_append bars A (p ∷ T) U h k =
    (h.0, taken_append bars (A ++ (p ∷ [])) T U h.1 (rw append_assoc k))

-- one run after another
pub then_added : (bars : Bars) (L₁ : List PieceSpec → Type 0)
    (L₂ : List PieceSpec → List PieceSpec → Type 0) (L₃ : List PieceSpec → Type 0)
    (A C B : List PieceSpec)
    → ((T U : List PieceSpec) → L₁ T → L₂ (A ++ T) U → L₃ (T ++ U))
    → Added bars L₁ A C → Added bars (L₂ C) C B → Added bars L₃ A B
then_added bars L₁ L₂ L₃ A C B join a b =
    record {
      new = a.new ++ b.new;
      all = b.all ∙ ap (λ (X : List PieceSpec). X ++ b.new) a.all ∙ append_assoc A a.new b.new;
      is = join a.new b.new a.is (subst (λ X. L₂ X b.new) a.all b.is);
      taken = taken_append bars A a.new b.new a.taken
          (subst (λ X. Taken bars X b.new) a.all b.taken);
    }

-- what is taken ends within the message
module _ (m : Message) (bars : Bars) (ends : EndsWithin m.len bars) where
  base_sound : (P : Path) (r : ℕ) (w : Base) (open' : List Path) (A B : List PieceSpec)
      → put_piece bars P r w A ≡ accepted B → Added bars (Layout m (base r w) P open' A) A B
  base_sound P r w open' A B e =
      let (free, same) = unless_accepted (bars A (piece_at A P r w)) r A (piece_at A P r w) B e in
      record {
        new = piece_at A P r w ∷ [];
        all = same;
        is = base' (ends A (piece_at A P r w) free);
        taken = (free, tt);
      }

  chosen_sound : (r : ℕ) (t : Truth) (τ σ : Ty) (P : Path) (open' : List Path)
      (A B : List PieceSpec) (b : Bool)
      → truth m A open' t ≡ Ok b
      → (lay m bars τ P open' A ≡ accepted B → Added bars (Layout m τ P open' A) A B)
      → (lay m bars σ P open' A ≡ accepted B → Added bars (Layout m σ P open' A) A B)
      → cond b (lay m bars τ P open' A) (lay m bars σ P open' A) ≡ accepted B
      → Added bars (Layout m (alt r t τ σ) P open' A) A B
  chosen_sound r t τ σ P open' A B true known f g e =
      let a = f e in record { new = a.new; all = a.all; is = alt' known a.is; taken = a.taken }
  chosen_sound r t τ σ P open' A B false known f g e =
      let a = g e in record { new = a.new; all = a.all; is = alt' known a.is; taken = a.taken }

  pub elements_sound : (τ : Ty) (P : Path) (open' : List Path)
      → ((i : ℕ) (A B : List PieceSpec) → lay m bars τ (P ▸ element i) open' A ≡ accepted B
      → Added bars (Layout m τ (P ▸ element i) open' A) A B)
      → (i k : ℕ) (A B : List PieceSpec)
      → repeated (λ j C. lay m bars τ (P ▸ element j) open' C) i k A ≡ accepted B
      → Added bars (LayElements m τ P open' i k A) A B
  elements_sound τ P open' each i zero A B e = nothing_added bars _ A B e done'
  elements_sound τ P open' each i (suc k) A B e =
      let (C, e₁, e₂) = onward_accepted (lay m bars τ (P ▸ element i) open' A) _ B e in
      then_added bars _ (λ X. LayElements m τ P open' (suc i) k X) _ A C B (λ T U. elem')
      (each i A C e₁) (elements_sound τ P open' each (suc i) k C B e₂)

  mutual
    pub sound : (τ : Ty) (P : Path) (open' : List Path) (A B : List PieceSpec)
        → lay m bars τ P open' A ≡ accepted B → Added bars (Layout m τ P open' A) A B
    sound (base r w) P open' A B e = base_sound P r w open' A B e
    sound (void r) P open' A B e = absurd (let z : ◌≡◌ {A = ℕ} 0 1 = cc in omega arith)
    sound (rec r fs) P open' A B e =
        let a = fields_sound fs P (P ∷ open') A B e in
        record { new = a.new; all = a.all; is = rec' a.is; taken = a.taken }
    sound (arr r n τ) P open' A B e =
        let (z, is, e₁) = needed_accepted (number m A open' n) r A _ B e in
        let (d, few, e₂) = many_accepted (elements_of z) r A _ B e₁ in
        let a = elements_sound τ P open' (λ i C D. sound τ (P ▸ element i) open' C D) 0 d A B e₂ in
        record { new = a.new; all = a.all; is = arr' is few a.is; taken = a.taken }
    sound (alt r t τ σ) P open' A B e =
        let (b, known, e₁) = needed_accepted (truth m A open' t) r A _ B e in
        chosen_sound r t τ σ P open' A B b known (sound τ P open' A B) (sound σ P open' A B) e₁

    pub fields_sound : (fs : Fields) (P : Path) (open' : List Path) (A B : List PieceSpec)
        → lay_fields m bars fs P open' A ≡ accepted B → Added bars (LayFields m fs P open' A) A B
    fields_sound none P open' A B e = nothing_added bars _ A B e none'
    fields_sound (fld n τ fs) P open' A B e =
        let (C, e₁, e₂) = onward_accepted (lay m bars τ (P ▸ field n) open' A) _ B e in
        then_added bars _ (λ X. LayFields m fs P open' X) _ A C B (λ T U. fld')
        (sound τ (P ▸ field n) open' A C e₁) (fields_sound fs P open' C B e₂)
