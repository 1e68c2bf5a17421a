-- Where and why laying stops, with the pieces that are placed by then.
use Rattle.std.specs.Prelude.{◌≡◌, ℕ, suc, Bool, true, cond, List, [], ◌∷◌, ◌++◌, length, Some}
use Rattle.std.specs.Prelude.{None, Ok, Err}
use Rattle.cells.specs.declared.cell.Cell.{Cell}
use Rattle.path.specs.Meaning.{field, element}
use Rattle.sheet.specs.Verdict.{lawful}
use Rattle.sheet_text.specs.declared.row.Row.{Row}
use Rattle.sheet_text.specs.declared.word.Base.{Base}
use Rattle.meaning.specs.declared.fault.EvalFault.{EvalFault}
use Rattle.meaning.specs.declared.fault.LayFault.{LayFault}
use Rattle.meaning.specs.declared.fault.LayFault.TheVariants as fault
use Rattle.meaning.specs.Terms.{Name, Path, PieceSpec, Pieces, Number, Num, Truth}
use Rattle.meaning.specs.Terms.{Ty, base, void, rec, arr, alt, Fields, fld}
use Rattle.meaning.specs.Values.{Message, over, elements_of, number, truth}
use Rattle.meaning.specs.Layouts.{◌▸◌, piece_at, Layout}
use Rattle.meaning.specs.Bars.{Bars, Taken, places}
use Rattle.meaning.specs.Stands.{type_at}
use Rattle.laws.specs.Distinct.{Distinct}

module _ (m : Message) (bars : Bars) where
  mutual
    -- `Stops τ P O A T e s`: of τ at P, after A, the pieces T are placed, and row s, in front then,
    -- is refused for e
    pub data Stops : Ty → Path → List Path → Pieces → Pieces → LayFault → ℕ → Type 0 where
      -- a base piece is barred
      barred' : {r : ℕ} {w : Base} {P : Path} {O : List Path} {A : Pieces} {e : LayFault}
          → bars A (piece_at A P r w) ≡ Some e → Stops (base r w) P O A [] e r
      void' : {r : ℕ} {P : Path} {O : List Path} {A : Pieces} → Stops (void r) P O A [] fault.Void r
      -- the number has no value, or an array can't have as many elements
      count' : {r : ℕ} {n : Num} {τ : Ty} {P : Path} {O : List Path} {A : Pieces} {e : EvalFault}
          → number m A O n ≡ Err e → Stops (arr r n τ) P O A [] (fault.Eval e) r
      many' : {r : ℕ} {n : Num} {τ : Ty} {P : Path} {O : List Path} {A : Pieces} {z : Number}
          → number m A O n ≡ Ok z → elements_of z ≡ None
          → Stops (arr r n τ) P O A [] fault.TooMany r
      -- the truth has no value
      truth' : {r : ℕ} {t : Truth} {τ σ : Ty} {P : Path} {O : List Path} {A : Pieces}
          {e : EvalFault} → truth m A O t ≡ Err e → Stops (alt r t τ σ) P O A [] (fault.Eval e) r
      -- it stops inside
      rec' : {r : ℕ} {fs : Fields} {P : Path} {O : List Path} {A T : Pieces} {e : LayFault} {s : ℕ}
          → StopsFields fs P (P ∷ O) A T e s → Stops (rec r fs) P O A T e s
      arr' : {r s d : ℕ} {n : Num} {τ : Ty} {P : Path} {O : List Path} {A T : Pieces} {z : Number}
          {e : LayFault} → number m A O n ≡ Ok z → elements_of z ≡ Some d
          → StopsElements τ P O 0 d A T e s → Stops (arr r n τ) P O A T e s
      alt' : {r s : ℕ} {t : Truth} {τ σ : Ty} {P : Path} {O : List Path} {A T : Pieces} {b : Bool}
          {e : LayFault} → truth m A O t ≡ Ok b → Stops (cond b τ σ) P O A T e s
          → Stops (alt r t τ σ) P O A T e s

    -- in the first field, or behind it, where the pieces of its layout are taken
    pub data StopsFields : Fields → Path → List Path → Pieces → Pieces → LayFault → ℕ → Type 0 where
      here' : {n : Name} {τ : Ty} {fs : Fields} {P : Path} {O : List Path} {A T : Pieces} {s : ℕ}
          {e : LayFault} → Stops τ (P ▸ field n) O A T e s → StopsFields (fld n τ fs) P O A T e s
      later' : {n : Name} {τ : Ty} {fs : Fields} {P : Path} {O : List Path} {A T U : Pieces} {s : ℕ}
          {e : LayFault} → Layout m τ (P ▸ field n) O A T → Taken bars A T
          → StopsFields fs P O (A ++ T) U e s → StopsFields (fld n τ fs) P O A (T ++ U) e s

    -- in element i, or behind it
    pub data StopsElements : Ty → Path → List Path → ℕ → ℕ → Pieces → Pieces → LayFault
        → ℕ → Type 0 where
      at' : {τ : Ty} {P : Path} {O : List Path} {i k s : ℕ} {A T : Pieces} {e : LayFault}
          → Stops τ (P ▸ element i) O A T e s → StopsElements τ P O i (suc k) A T e s
      behind' : {τ : Ty} {P : Path} {O : List Path} {i k s : ℕ} {A T U : Pieces} {e : LayFault}
          → Layout m τ (P ▸ element i) O A T → Taken bars A T
          → StopsElements τ P O (suc i) k (A ++ T) U e s
          → StopsElements τ P O i (suc k) A (T ++ U) e s

-- laying a message by a sheet, into a list of so many places, stops with the pieces A placed, at
-- row r, for e
abbrev pub LayingStops : List ℕ → List Row → List Cell → ℕ → List PieceSpec → LayFault → ℕ → Type 0
LayingStops text rows cells room A e r =
    Stops (over rows cells) (places (length cells) room) (type_at text rows 0) [] [] [] A e r

-- no two pieces that are placed where laying by a checked sheet stops share a path
abbrev pub PathsDifferAhead : Type 0
PathsDifferAhead =
    (text : List ℕ) (rows : List Row) (cells : List Cell) (room : ℕ) (e : LayFault) (r : ℕ)
    (A : List PieceSpec)
    → lawful text rows ≡ true → LayingStops text rows cells room A e r → Distinct A
