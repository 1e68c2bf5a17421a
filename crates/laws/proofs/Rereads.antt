-- A list of pieces takes itself and nothing else; so a run that places all of it shows a reading.
use Rattle.std.proofs.Common.{◌≡◌, ℕ, true, List, [], ◌∷◌, ◌++◌, length, Some, sym, refl, ap, ap₂}
use Rattle.std.proofs.Common.{◌∙◌, subst, append_assoc, arith, length-append, eqb-true}
use Rattle.std.proofs.lemmas.Bool.{eq-eqb, and_parts, and_from}
use Rattle.std.specs.List.{slice_get}
use Rattle.path.specs.Equal.{path_decides}
use Rattle.meaning.specs.Terms.{PieceSpec}
use Rattle.meaning.specs.Values.{over}
use Rattle.meaning.specs.Stands.{type_at}
use Rattle.meaning.specs.declared.fault.LayFault.TheVariants as fault
use Rattle.meaning.specs.Bars.{EndsWithin, Taken, only}
use Rattle.meaning.specs.Matcher.{Laid, accepted, refused, matched}
use Rattle.meaning.specs.Kept.{same_piece}
use Rattle.laws.specs.Rereads.{as_many, RereadDecides}
use Rattle.laws.proofs.Accepts.{passes, passed, inside_takes, taken_inside, reading_within}
use Rattle.laws.proofs.Prefix.{Within}
use Rattle.laws.proofs.Sound.{sound}
use Rattle.laws.proofs.Complete.{complete}

pub same_piece_equal : (p q : PieceSpec) → same_piece p q ≡ true → p ≡ q
same_piece_equal p q e =
    let (a, e₁) = and_parts _ _ e in
    let (b, e₂) = and_parts _ _ e₁ in
    let (c, d) = and_parts _ _ e₂ in
    let path = (path_decides p.path q.path).0 a in
    let row = eqb-true p.row q.row b in
    let place = eqb-true p.place q.place c in
    let width = eqb-true p.width q.width d in
    λ i. record { path = path i; row = row i; place = place i; width = width i }

pub piece_itself : (p : PieceSpec) → same_piece p p ≡ true
piece_itself p =
    and_from _ _ ((path_decides p.path p.path).1 refl)
    (and_from _ _ (eq-eqb p.row p.row refl)
    (and_from _ _ (eq-eqb p.place p.place refl) (eq-eqb p.width p.width refl)))

next_piece : (F : List PieceSpec) (p : PieceSpec) (U : List PieceSpec)
    → slice_get (F ++ p ∷ U) (length F) ≡ Some p
next_piece [] p U = refl
next_piece (q ∷ F) p U = next_piece F p U

-- a list of pieces takes itself
follows_itself : (len : ℕ) (F U : List PieceSpec) → Within len U → Taken (only len (F ++ U)) F U
follows_itself len F [] i = tt
follows_itself len F (p ∷ U) i = (
  inside_takes len p _ i.0 (passes _ fault.NotKept (rw (next_piece F p U) (piece_itself p))),
  subst (λ (X : List PieceSpec). Taken (only len X) (F ++ p ∷ []) U) (append_assoc F (p ∷ []) U)
      (follows_itself len (F ++ p ∷ []) U i.1),
)

-- and nothing else
follows_only : (len : ℕ) (T F U R : List PieceSpec) → T ≡ F ++ R → length (F ++ U) ≡ length T
    → Taken (only len T) F U → U ≡ R
follows_only len T F [] [] e n h = refl
follows_only len T F [] (r ∷ R) e n h =
    absurd (let m = ap length e in omega (arith, length-append F (r ∷ R), length-append F []))
follows_only len T F (p ∷ U) [] e n h =
    absurd (let m = ap length e in omega (arith, length-append F (p ∷ U), length-append F []))
follows_only len T F (p ∷ U) (r ∷ R) e n h =
    let here : same_piece r p ≡ true =
    rw (e, next_piece F r R) at (passed _ fault.NotKept (taken_inside len p _ h.0).1) in
    let same : r ≡ p = same_piece_equal r p here in
    ap₂ {C = List PieceSpec} (λ a b. a ∷ b) (sym same)
    (follows_only len T (F ++ p ∷ []) U R
    (e ∙ ap (λ (x : PieceSpec). F ++ x ∷ R) same ∙ sym (append_assoc F (p ∷ []) R))
    (ap length (append_assoc F (p ∷ []) U) ∙ n)
    h.1)

as_many_accepted : (x : Laid) (n : ℕ) → as_many x n ≡ true
    → (B : List PieceSpec) × ((x ≡ accepted B) × (length B ≡ n))
as_many_accepted (accepted B) n e = (B, (refl, eqb-true (length B) n e))
as_many_accepted (refused c r B) n e = absurd (let z : ◌≡◌ {A = ℕ} 0 1 = cc in omega arith)

only_end : (len : ℕ) (T : List PieceSpec) → EndsWithin len (only len T)
only_end len T A p h = (taken_inside len p _ h).0

pub reread_decides : RereadDecides
reread_decides text rows cells T =
    let m = over rows cells in
    let n = length cells in (
      (λ e.
          let (B, (e₁, many)) = as_many_accepted (matched text rows m (only n T)) (length T) e in
          let a = sound m (only n T) (only_end n T) (type_at text rows 0) [] [] [] B e₁ in
          let same : a.new ≡ T = follows_only n T [] a.new T refl (ap length (sym a.all) ∙ many)
          a.taken in
          rw same at a.is),
      (λ r. rw (complete m (only n T) r (follows_itself n [] T (reading_within rows cells r)))
          (eq-eqb (length T) (length T) refl)),
    )
