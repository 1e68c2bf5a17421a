use Rattle.std.proofs.Common.{◌≡◌, ℕ, ◌+◌, ◌≤◌, Bool, true, false, cond, None, Some, Option, refl}
use Rattle.std.proofs.Common.{ap, List, [], ◌∷◌, ◌++◌, length, append_assoc, append-nil, arith}
use Rattle.std.proofs.Common.{length-append, ltb-true, lt-ltb, leb, le-leb, leb-true, ◌∙◌}
use Rattle.meaning.specs.Terms.{PieceSpec}
use Rattle.cells.specs.declared.cell.Cell.{Cell}
use Rattle.sheet_text.specs.declared.row.Row.{Row}
use Rattle.meaning.specs.declared.fault.LayFault.{LayFault}
use Rattle.meaning.specs.declared.fault.LayFault.TheVariants as fault
use Rattle.meaning.specs.Terms.{Ty}
use Rattle.meaning.specs.Values.{over}
use Rattle.meaning.specs.Layouts.{Layout}
use Rattle.meaning.specs.Stands.{type_at}
use Rattle.meaning.specs.Bars.{EndsWithin, Taken, places, unless_past}
use Rattle.laws.proofs.Prefix.{Within, layout_within, layout_inside}
use Rattle.laws.specs.Laws.{AcceptsReadings}
use Rattle.laws.proofs.Sound.{sound}
use Rattle.laws.proofs.Complete.{complete}

-- a test that bars where it fails
pub passes : (b : Bool) (e : LayFault) → b ≡ true
    → ◌≡◌ {A = Option LayFault} (cond b None (Some e)) None
passes b e h = ap (λ c. cond c None (Some e)) h

pub passed : (b : Bool) (e : LayFault) → ◌≡◌ {A = Option LayFault} (cond b None (Some e)) None
    → b ≡ true
passed true e h = refl
passed false e h = absurd (let z : ◌≡◌ {A = ℕ} 0 1 = cc in omega arith)

-- what is not past the end and not barred for another reason
pub inside_is : (len : ℕ) (p : PieceSpec) (o : Option LayFault)
    → p.place + p.width ≤ len → unless_past len p o ≡ o
inside_is len p o h = ap (λ b. cond b o (Some fault.PastEnd)) (le-leb (p.place + p.width) len h)

pub inside_takes : (len : ℕ) (p : PieceSpec) (o : Option LayFault)
    → p.place + p.width ≤ len → o ≡ None → unless_past len p o ≡ None
inside_takes len p o h e = inside_is len p o h ∙ e

pub taken_inside : (len : ℕ) (p : PieceSpec) (o : Option LayFault) → unless_past len p o ≡ None
    → (p.place + p.width ≤ len) × (o ≡ None)
taken_inside len p o h = go (leb (p.place + p.width) len) refl h
  where
    go : (b : Bool) → leb (p.place + p.width) len ≡ b
        → ◌≡◌ {A = Option LayFault} (cond b o (Some fault.PastEnd)) None
        → (p.place + p.width ≤ len) × (o ≡ None)
    go true x k = (leb-true _ _ x, k)
    go false x k = absurd (let z : ◌≡◌ {A = ℕ} 0 1 = cc in omega arith)

pub places_end : (len room : ℕ) → EndsWithin len (places len room)
places_end len room A p h = (taken_inside len p _ h).0

pub fits_taken : (len room : ℕ) (A T : List PieceSpec) → Within len T → length (A ++ T) ≤ room
    → Taken (places len room) A T
fits_taken len room A [] i h = tt
fits_taken len room A (p ∷ T) i h = (
  inside_takes len p _ i.0
      (passes _ fault.Full (lt-ltb (length A) room (omega (arith, length-append A (p ∷ T))))),
  fits_taken len room (A ++ (p ∷ [])) T i.1 (rw append_assoc h),
)

pub taken_fits : (len room : ℕ) (A T : List PieceSpec) → length A ≤ room
    → Taken (places len room) A T
    → length (A ++ T) ≤ room
taken_fits len room A [] h k = rw append-nil h
taken_fits len room A (p ∷ T) h k =
    let free = ltb-true (length A) room (passed _ fault.Full (taken_inside len p _ k.0).1) in
    rw append_assoc at
    (taken_fits len room (A ++ (p ∷ [])) T (omega (arith, length-append A (p ∷ []), free)) k.1)

-- the pieces of a reading end within the cells
pub reading_within : (rows : List Row) (cells : List Cell) {τ : Ty} {T : List PieceSpec}
    → Layout (over rows cells) τ [] [] [] T → Within (length cells) T
reading_within rows cells r = layout_within (length cells) r (layout_inside r (omega arith))

pub accepts_readings : AcceptsReadings
accepts_readings text rows cells room T =
    let m = over rows cells in
    let n = length cells in (
      (λ e.
          let a = sound m (places n room) (places_end n room) (type_at text rows 0) [] [] [] T e in
          (rw a.all a.is, rw a.all (taken_fits n room [] a.new (omega arith) a.taken))),
      (λ h. complete m (places n room) h.0
          (fits_taken n room [] T (reading_within rows cells h.0) h.1)),
    )
