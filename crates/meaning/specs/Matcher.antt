-- The matcher: the row in front is opened, a base row becomes a piece, and every other row is
-- replaced by its parts.
use Rattle.std.specs.Prelude.{ℕ, zero, suc, cond, List, [], ◌∷◌, ◌++◌, Some, None, Option, Ok, Err}
use Rattle.path.specs.Meaning.{field, element}
use Rattle.sheet_text.specs.declared.row.Row.{Row}
use Rattle.sheet_text.specs.declared.word.Base.{Base}
use Rattle.meaning.specs.declared.fault.LayFault.{LayFault}
use Rattle.meaning.specs.declared.fault.LayFault.TheVariants as fault
use Rattle.meaning.specs.Terms.{Path, PieceSpec}
use Rattle.meaning.specs.Terms.{Ty, base, void, rec, arr, alt, Fields, none, fld}
use Rattle.meaning.specs.Stands.{type_at}
use Rattle.meaning.specs.Values.{Outcome, Message, elements_of, number, truth}
use Rattle.meaning.specs.Layouts.{◌▸◌, piece_at}
use Rattle.meaning.specs.Bars.{Bars}

-- all pieces placed; or a refusal, with the row in front and the pieces placed ahead of it
pub data Laid : Type 0 where
  accepted : List PieceSpec → Laid
  refused : LayFault → ℕ → List PieceSpec → Laid

-- what comes next, unless it was refused
abbrev pub ◌onward◌ : Laid → (List PieceSpec → Laid) → Laid
◌onward◌ (accepted A) f = f A
◌onward◌ (refused e r A) f = refused e r A

infixl 30 ◌onward◌
-- a value that is needed at row r
abbrev pub needed : {V : Type 0} → Outcome V → ℕ → List PieceSpec → (V → Laid) → Laid
needed (Ok v) r A f = f v
needed (Err e) r A f = refused (fault.Eval e) r A

-- as many elements, if an array can have them
abbrev pub so_many : Option ℕ → ℕ → List PieceSpec → (ℕ → Laid) → Laid
so_many (Some d) r A f = f d
so_many None r A f = refused fault.TooMany r A

-- k elements from element i on
abbrev pub repeated : (ℕ → List PieceSpec → Laid) → ℕ → ℕ → List PieceSpec → Laid
repeated f i zero A = accepted A
repeated f i (suc k) A = f i A onward repeated f (suc i) k

-- a piece that goes behind the pieces A, or why it does not
abbrev pub unless : Option LayFault → ℕ → List PieceSpec → PieceSpec → Laid
unless None r A p = accepted (A ++ (p ∷ []))
unless (Some e) r A p = refused e r A

abbrev pub put_piece : Bars → Path → ℕ → Base → List PieceSpec → Laid
put_piece bars P r w A = unless (bars A (piece_at A P r w)) r A (piece_at A P r w)

module _ (m : Message) (bars : Bars) where
  abbrev mutual
    pub lay : Ty → Path → List Path → List PieceSpec → Laid
    lay (base r w) P open' A = put_piece bars P r w A
    lay (void r) P open' A = refused fault.Void r A
    lay (rec r fs) P open' A = lay_fields fs P (P ∷ open') A
    lay (arr r n τ) P open' A =
        needed (number m A open' n) r A λ z. so_many (elements_of z) r A λ d.
        repeated (λ i B. lay τ (P ▸ element i) open' B) 0 d A
    lay (alt r t τ σ) P open' A =
        needed (truth m A open' t) r A λ b. cond b (lay τ P open' A) (lay σ P open' A)

    pub lay_fields : Fields → Path → List Path → List PieceSpec → Laid
    lay_fields none P open' A = accepted A
    lay_fields (fld n τ fs) P open' A = lay τ (P ▸ field n) open' A onward lay_fields fs P open'

-- a message by the sheet of these rows over that text
abbrev pub matched : List ℕ → List Row → Message → Bars → Laid
matched text rows m bars = lay m bars (type_at text rows 0) [] [] []
