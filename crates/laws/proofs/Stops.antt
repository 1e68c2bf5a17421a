use Rattle.std.proofs.Common.{◌≡◌, ℕ, zero, suc, Bool, true, false, cond, List, [], ◌∷◌}
use Rattle.std.proofs.Common.{◌++◌, None, Some, Option, Ok, Err, sym, refl, ap, ◌∙◌, ◌↔◌, length}
use Rattle.std.proofs.Common.{subst, append_assoc, append-nil, arith}
use Rattle.path.specs.Meaning.{field, element}
use Rattle.sheet_text.specs.declared.word.Base.{Base}
use Rattle.meaning.specs.Terms.{Path, PieceSpec, Num, Truth, Number}
use Rattle.meaning.specs.Terms.{Ty, base, void, rec, arr, alt, Fields, none, fld}
use Rattle.meaning.specs.Values.{Outcome, Message, over, number, truth, elements_of}
use Rattle.meaning.specs.Stands.{type_at}
use Rattle.meaning.specs.declared.fault.LayFault.TheVariants as fault
use Rattle.meaning.specs.Layouts.{◌▸◌, piece_at}
use Rattle.meaning.specs.Matcher.{Laid, accepted, refused, ◌onward◌, needed, unless, repeated, lay}
use Rattle.meaning.specs.Matcher.{lay_fields}
use Rattle.laws.specs.Stops.{Stops, barred', void', count', many', truth', rec', arr', alt'}
use Rattle.laws.specs.Stops.{StopsFields, here', later', StopsElements, at', behind'}
use Rattle.laws.specs.Laws.{StopsDecide}
use Rattle.laws.proofs.Sound.{sound}
use Rattle.laws.proofs.Complete.{complete, onward_step, needed_step, many_step}
use Rattle.laws.proofs.Accepts.{places_end}
use Rattle.meaning.specs.Bars.{Bars, places, EndsWithin}
use Rattle.meaning.specs.declared.fault.LayFault.{LayFault}
use Rattle.meaning.specs.Matcher.{so_many}

-- what a refused run has added to the pieces A
record Halted (L : List PieceSpec → Type 0) (A B : List PieceSpec) : Type 0 where
  pub new : List PieceSpec
  pub all : B ≡ A ++ new
  pub is : L new

halts : (L : List PieceSpec → LayFault → ℕ → Type 0) (f e : LayFault) (r s : ℕ)
    (A B : List PieceSpec)
    → L [] f r → refused f r A ≡ refused e s B → Halted (λ T. L T e s) A B
halts L f e r s A B k h =
    let a : f ≡ e = cc in
    let b : r ≡ s = cc in
    let c : B ≡ A = cc in
    record {
      new = [];
      all = c ∙ sym (append-nil A);
      is =
          subst (λ x. L [] e x) b (subst (λ x. L [] x r) a k);
    }

mapped : (L M : List PieceSpec → Type 0) (A B : List PieceSpec) → ((T : List PieceSpec) → L T → M T)
    → Halted L A B → Halted M A B
mapped L M A B f h = record { new = h.new; all = h.all; is = f h.new h.is }

then_halted : (L₂ : List PieceSpec → List PieceSpec → Type 0) (L₃ : List PieceSpec → Type 0)
    (A C B T : List PieceSpec)
    → C ≡ A ++ T → ((U : List PieceSpec) → L₂ (A ++ T) U → L₃ (T ++ U)) → Halted (L₂ C) C B
    → Halted L₃ A B
then_halted L₂ L₃ A C B T e join b =
    record {
      new = T ++ b.new;
      all = b.all ∙ ap (λ (X : List PieceSpec). X ++ b.new) e ∙ append_assoc A T b.new;
      is = join b.new (subst (λ X. L₂ X b.new) e b.is);
    }

none_step : (o : Option ℕ) (r : ℕ) (A : List PieceSpec) (f : ℕ → Laid) (y : Laid)
    → o ≡ None → refused fault.TooMany r A ≡ y → so_many o r A f ≡ y
none_step o r A f y e g = rw e g

needed_err : {V : Type 0} (x : Outcome V) (r : ℕ) (A : List PieceSpec) (f : V → Laid) (e : _)
    (y : Laid) → x ≡ Err e → refused (fault.Eval e) r A ≡ y → needed x r A f ≡ y
needed_err x r A f e y h g = rw h g

onward_refused : (x : Laid) (f : List PieceSpec → Laid) (y : Laid) (e : LayFault) (s : ℕ)
    (B : List PieceSpec) → x ≡ refused e s B → refused e s B ≡ y → x onward f ≡ y
onward_refused x f y e s B h g = rw h g

unless_barred : (o : Option LayFault) (r : ℕ) (A : List PieceSpec) (p : PieceSpec) (e : LayFault)
    → o ≡ Some e → unless o r A p ≡ refused e r A
unless_barred o r A p e h = rw h refl

module _ (m : Message) (bars : Bars) (ends : EndsWithin m.len bars) where
  abbrev laid : Ty → Path → List Path → List PieceSpec → Laid
  laid τ P open' A = lay m bars τ P open' A

  base_stops : (P : Path) (r : ℕ) (w : Base) (open' : List Path) (A B : List PieceSpec)
      (e : LayFault) (s : ℕ)
      → (o : Option LayFault) → bars A (piece_at A P r w) ≡ o
      → unless o r A (piece_at A P r w) ≡ refused e s B
      → Halted (λ T. Stops m bars (base r w) P open' A T e s) A B
  base_stops P r w open' A B e s None y h = absurd (let z : ◌≡◌ {A = ℕ} 0 1 = cc in omega arith)
  base_stops P r w open' A B e s (Some c) y h =
      halts (Stops m bars (base r w) P open' A) c e r s A B (barred' y) h

  abbrev Stopping : Ty → Path → List Path → Type 0
  Stopping τ P open' = (A B : List PieceSpec) (e : LayFault) (s : ℕ)
      → laid τ P open' A ≡ refused e s B
      → Halted (λ T. Stops m bars τ P open' A T e s) A B

  element_stops : (τ : Ty) (P : Path) (open' : List Path) (i k : ℕ)
      → Stopping τ (P ▸ element i) open'
      → ((A B : List PieceSpec) (e : LayFault) (s : ℕ)
      → repeated (λ j C. laid τ (P ▸ element j) open' C) (suc i) k A ≡ refused e s B
      → Halted (λ T. StopsElements m bars τ P open' (suc i) k A T e s) A B)
      → (A B : List PieceSpec) (e : LayFault) (s : ℕ) → (x : Laid)
      → laid τ (P ▸ element i) open' A ≡ x
      → (x onward repeated (λ j C. laid τ (P ▸ element j) open' C) (suc i) k) ≡ refused e s B
      → Halted (λ T. StopsElements m bars τ P open' i (suc k) A T e s) A B
  element_stops τ P open' i k first rest A B e s (accepted C) q g =
      let a = sound m bars ends τ (P ▸ element i) open' A C q in
      then_halted (λ X U. StopsElements m bars τ P open' (suc i) k X U e s)
      (λ T. StopsElements m bars τ P open' i (suc k) A T e s) A C B a.new a.all
      (λ U u. behind' a.is a.taken u) (rest C B e s g)
  element_stops τ P open' i k first rest A B e s (refused c r C) q g =
      mapped (λ T. Stops m bars τ (P ▸ element i) open' A T e s)
      (λ T. StopsElements m bars τ P open' i (suc k) A T e s) A B (λ T. at')
      (first A B e s (q ∙ g))

  elements_stop : (τ : Ty) (P : Path) (open' : List Path)
      → ((i : ℕ) → Stopping τ (P ▸ element i) open')
      → (i k : ℕ) (A B : List PieceSpec) (e : LayFault) (s : ℕ)
      → repeated (λ j C. laid τ (P ▸ element j) open' C) i k A ≡ refused e s B
      → Halted (λ T. StopsElements m bars τ P open' i k A T e s) A B
  elements_stop τ P open' each i zero A B e s h =
      absurd (let z : ◌≡◌ {A = ℕ} 0 1 = cc in omega arith)
  elements_stop τ P open' each i (suc k) A B e s h =
      element_stops τ P open' i k (each i) (elements_stop τ P open' each (suc i) k) A B e s
      (laid τ (P ▸ element i) open' A) refl h

  arr_by : (r : ℕ) (n : Num) (τ : Ty) (P : Path) (open' : List Path)
      → ((i : ℕ) → Stopping τ (P ▸ element i) open')
      → (A B : List PieceSpec) (e : LayFault) (s : ℕ) → (z : Number) → number m A open' n ≡ Ok z
      → (o : Option ℕ) → elements_of z ≡ o
      → so_many o r A (λ d. repeated (λ j C. laid τ (P ▸ element j) open' C) 0 d A) ≡ refused e s B
      → Halted (λ T. Stops m bars (arr r n τ) P open' A T e s) A B
  arr_by r n τ P open' each A B e s z q (Some d) x h =
      mapped (λ T. StopsElements m bars τ P open' 0 d A T e s)
      (λ T. Stops m bars (arr r n τ) P open' A T e s) A B
      (λ T. arr' q x) (elements_stop τ P open' each 0 d A B e s h)
  arr_by r n τ P open' each A B e s z q None x h =
      halts (Stops m bars (arr r n τ) P open' A) fault.TooMany e r s A B (many' q x) h

  arr_stops : (r : ℕ) (n : Num) (τ : Ty) (P : Path) (open' : List Path)
      → ((i : ℕ) → Stopping τ (P ▸ element i) open')
      → (A B : List PieceSpec) (e : LayFault) (s : ℕ) → (x : Outcome Number)
      → number m A open' n ≡ x
      → needed x r A (λ z. so_many (elements_of z) r A λ d.
      repeated (λ j C. laid τ (P ▸ element j) open' C) 0 d A) ≡ refused e s B
      → Halted (λ T. Stops m bars (arr r n τ) P open' A T e s) A B
  arr_stops r n τ P open' each A B e s (Ok z) q h =
      arr_by r n τ P open' each A B e s z q (elements_of z) refl h
  arr_stops r n τ P open' each A B e s (Err v) q h =
      halts (Stops m bars (arr r n τ) P open' A) (fault.Eval v) e r s A B (count' q) h

  alt_stops : (r : ℕ) (t : Truth) (τ σ : Ty) (P : Path) (open' : List Path) → Stopping τ P open'
      → Stopping σ P open'
      → (A B : List PieceSpec) (e : LayFault) (s : ℕ) → (x : Outcome Bool) → truth m A open' t ≡ x
      → needed x r A (λ b. cond b (laid τ P open' A) (laid σ P open' A)) ≡ refused e s B
      → Halted (λ T. Stops m bars (alt r t τ σ) P open' A T e s) A B
  alt_stops r t τ σ P open' one two A B e s (Ok true) q h =
      mapped (λ T. Stops m bars τ P open' A T e s) (λ T. Stops m bars (alt r t τ σ) P open' A T e s)
      A B (λ T u. alt' {b = true} q u) (one A B e s h)
  alt_stops r t τ σ P open' one two A B e s (Ok false) q h =
      mapped (λ T. Stops m bars σ P open' A T e s) (λ T. Stops m bars (alt r t τ σ) P open' A T e s)
      A B (λ T u. alt' {b = false} q u) (two A B e s h)
  alt_stops r t τ σ P open' one two A B e s (Err v) q h =
      halts (Stops m bars (alt r t τ σ) P open' A) (fault.Eval v) e r s A B (truth' q) h

  field_stops : (n : _) (τ : Ty) (fs : Fields) (P : Path) (open' : List Path)
      → Stopping τ (P ▸ field n) open'
      → ((A B : List PieceSpec) (e : LayFault) (s : ℕ)
      → lay_fields m bars fs P open' A ≡ refused e s B
      → Halted (λ T. StopsFields m bars fs P open' A T e s) A B)
      → (A B : List PieceSpec) (e : LayFault) (s : ℕ) → (x : Laid)
      → laid τ (P ▸ field n) open' A ≡ x
      → (x onward lay_fields m bars fs P open') ≡ refused e s B
      → Halted (λ T. StopsFields m bars (fld n τ fs) P open' A T e s) A B
  field_stops n τ fs P open' first rest A B e s (accepted C) q g =
      let a = sound m bars ends τ (P ▸ field n) open' A C q in
      then_halted (λ X U. StopsFields m bars fs P open' X U e s)
      (λ T. StopsFields m bars (fld n τ fs) P open' A T e s) A C B a.new a.all
      (λ U u. later' a.is a.taken u) (rest C B e s g)
  field_stops n τ fs P open' first rest A B e s (refused c r C) q g =
      mapped (λ T. Stops m bars τ (P ▸ field n) open' A T e s)
      (λ T. StopsFields m bars (fld n τ fs) P open' A T e s) A B (λ T. here')
      (first A B e s (q ∙ g))

  mutual
    stops : (τ : Ty) (P : Path) (open' : List Path) (A B : List PieceSpec) (e : LayFault) (s : ℕ)
        → laid τ P open' A ≡ refused e s B
        → Halted (λ T. Stops m bars τ P open' A T e s) A B
    stops (base r w) P open' A B e s h =
        base_stops P r w open' A B e s (bars A (piece_at A P r w)) refl h
    stops (void r) P open' A B e s h =
        halts (Stops m bars (void r) P open' A) fault.Void e r s A B void' h
    stops (rec r fs) P open' A B e s h =
        mapped (λ T. StopsFields m bars fs P (P ∷ open') A T e s)
        (λ T. Stops m bars (rec r fs) P open' A T e s) A B (λ T. rec')
        (fields_stop fs P (P ∷ open') A B e s h)
    stops (arr r n τ) P open' A B e s h =
        arr_stops r n τ P open' (λ i. stops τ (P ▸ element i) open') A B e s (number m A open' n)
        refl h
    stops (alt r t τ σ) P open' A B e s h =
        alt_stops r t τ σ P open' (stops τ P open') (stops σ P open') A B e s (truth m A open' t)
        refl h

    fields_stop : (fs : Fields) (P : Path) (open' : List Path) (A B : List PieceSpec) (e : LayFault)
        (s : ℕ)
        → lay_fields m bars fs P open' A ≡ refused e s B
        → Halted (λ T. StopsFields m bars fs P open' A T e s) A B
    fields_stop none P open' A B e s h = absurd (let z : ◌≡◌ {A = ℕ} 0 1 = cc in omega arith)
    fields_stop (fld n τ fs) P open' A B e s h =
        field_stops n τ fs P open' (stops τ (P ▸ field n) open') (fields_stop fs P open') A B e s
        (laid τ (P ▸ field n) open' A) refl h

  at_end : (e : LayFault) (r : ℕ) (A : List PieceSpec) → refused e r A ≡ refused e r (A ++ [])
  at_end e r A = ap (refused e r) (sym (append-nil A))

  mutual
    stopped : {τ : Ty} {P : Path} {open' : List Path} {A T : List PieceSpec} {e : LayFault} {s : ℕ}
        → Stops m bars τ P open' A T e s → laid τ P open' A ≡ refused e s (A ++ T)
    stopped (barred' {r = r} {w = w} {P = P} {A = A} {e = e} i) =
        unless_barred _ r A (piece_at A P r w) e i ∙ at_end e r A
    stopped (void' {r = r} {A = A}) = at_end fault.Void r A
    stopped (count' {r = r} {A = A} {e = e} q) =
        needed_err _ r A _ e _ q (at_end (fault.Eval e) r A)
    stopped (many' {r = r} {A = A} q m) =
        needed_step _ r A _ _ _ q (none_step _ r A _ _ m (at_end fault.TooMany r A))
    stopped (truth' {r = r} {A = A} {e = e} q) =
        needed_err _ r A _ e _ q (at_end (fault.Eval e) r A)
    stopped (rec' f) = stopped_fields f
    stopped (arr' {r = r} {A = A} q few f) =
        needed_step _ r A _ _ _ q (many_step _ r A _ _ _ few (stopped_elements f))
    stopped (alt' {r = r} {A = A} {b = true} q f) = needed_step _ r A _ _ _ q (stopped f)
    stopped (alt' {r = r} {A = A} {b = false} q f) = needed_step _ r A _ _ _ q (stopped f)

    stopped_fields : {fs : Fields} {P : Path} {open' : List Path} {A T : List PieceSpec}
        {e : LayFault} {s : ℕ}
        → StopsFields m bars fs P open' A T e s
        → lay_fields m bars fs P open' A ≡ refused e s (A ++ T)
    stopped_fields (here' f) = onward_refused _ _ _ _ _ _ (stopped f) refl
    stopped_fields (later' {A = A} {T = T} {U = U} {s = s} {e = e} f enough fs) =
        onward_step _ _ (A ++ T) _ (complete m bars f enough)
        (stopped_fields fs ∙ ap (refused e s) (append_assoc A T U))

    stopped_elements : {τ : Ty} {P : Path} {open' : List Path} {i k : ℕ} {A T : List PieceSpec}
        {e : LayFault} {s : ℕ}
        → StopsElements m bars τ P open' i k A T e s
        → repeated (λ j C. laid τ (P ▸ element j) open' C) i k A ≡ refused e s (A ++ T)
    stopped_elements (at' f) = onward_refused _ _ _ _ _ _ (stopped f) refl
    stopped_elements (behind' {s = s} {A = A} {T = T} {U = U} {e = e} f enough fs) =
        onward_step _ _ (A ++ T) _ (complete m bars f enough)
        (stopped_elements fs ∙ ap (refused e s) (append_assoc A T U))

-- over any message, where what is taken ends within it
pub stops_by : (m : Message) (bars : Bars) → EndsWithin m.len bars
    → (τ : Ty) (e : LayFault) (r : ℕ) (A : List PieceSpec)
    → (lay m bars τ [] [] [] ≡ refused e r A) ↔ Stops m bars τ [] [] [] A e r
stops_by m bars ends τ e r A = (
  (λ h.
      let a = stops m bars ends τ [] [] [] A e r h in
      subst (λ X. Stops m bars τ [] [] [] X e r) (sym a.all) a.is),
  (λ h. stopped m bars ends h),
)

pub stops_decide : StopsDecide
stops_decide text rows cells room e r A =
    stops_by (over rows cells) (places (length cells) room) (places_end (length cells) room)
    (type_at text rows 0) e r A
