-- What bars a piece: why the place where the pieces go does not take it.
use Rattle.std.specs.Prelude.{◌≡◌, ℕ, ◌+◌, ◌≤◌, cond, List, [], ◌∷◌, ◌++◌, length, Some, None}
use Rattle.std.specs.Prelude.{Option, nat_le, nat_lt}
use Rattle.meaning.specs.Terms.{PieceSpec}
use Rattle.meaning.specs.Kept.{follows}
use Rattle.meaning.specs.declared.fault.LayFault.{LayFault}
use Rattle.meaning.specs.declared.fault.LayFault.TheVariants as fault

-- why a piece is not taken behind some pieces, if it is not
abbrev pub Bars : Type 0
Bars = List PieceSpec → PieceSpec → Option LayFault

-- it would pass the end of so many cells; or something else is the reason
abbrev pub unless_past : ℕ → PieceSpec → Option LayFault → Option LayFault
unless_past len p other = cond (nat_le (p.place + p.width) len) other (Some fault.PastEnd)

-- a message of so many cells, and a list of so many places
abbrev pub places : ℕ → ℕ → Bars
places len room A p = unless_past len p (cond (nat_lt (length A) room) None (Some fault.Full))

-- the same message, and kept pieces, which take nothing but themselves, in their order
abbrev pub only : ℕ → List PieceSpec → Bars
only len T A p = unless_past len p (cond (follows T A p) None (Some fault.NotKept))

-- what is taken ends within so many cells
abbrev pub EndsWithin : ℕ → Bars → Type 0
EndsWithin len bars = (A : List PieceSpec) (p : PieceSpec) → bars A p ≡ None
    → p.place + p.width ≤ len

-- the pieces T are taken one after the other, behind A
abbrev pub Taken : Bars → List PieceSpec → List PieceSpec → Type 0
Taken bars A [] = Unit
Taken bars A (p ∷ T) = (bars A p ≡ None) × Taken bars (A ++ (p ∷ [])) T
