-- What a reading is. Values are worked out after the pieces placed ahead (`A`), with certain
-- records open, innermost first (`O`).
use Rattle.std.specs.Prelude.{◌≡◌, ℕ, suc, ◌+◌, ◌≤◌, Bool, cond, List, [], ◌∷◌, ◌++◌, Some, Ok}
use Rattle.path.specs.Meaning.{Downward, field, element}
use Rattle.sheet_text.specs.declared.word.Base.{Base}
use Rattle.sheet_text.specs.Table.{width_of}
use Rattle.meaning.specs.Terms.{Name, Path, PieceSpec, Pieces, total, Number, Num, Truth}
use Rattle.meaning.specs.Terms.{Ty, base, rec, arr, alt, Fields, none, fld}
use Rattle.meaning.specs.Values.{Message, elements_of, number, truth}

-- one step further down
abbrev pub ◌▸◌ : Path → Downward → Path
p ▸ s = p ++ (s ∷ [])

infixl 60 ◌▸◌
-- the piece of base row r at P, behind the pieces A
abbrev pub piece_at : List PieceSpec → Path → ℕ → Base → PieceSpec
piece_at A P r w = record { path = P; row = r; place = total A; width = width_of w }

module _ (m : Message) where
  mutual
    -- `Layout τ P O A T`: T is a layout of τ at P, after A, with the records O open. Void has none
    pub data Layout : Ty → Path → List Path → Pieces → Pieces → Type 0 where
      -- one piece, which ends within the cells
      base' : {r : ℕ} {w : Base} {P : Path} {O : List Path} {A : Pieces}
          → total A + width_of w ≤ m.len → Layout (base r w) P O A (piece_at A P r w ∷ [])
      -- the fields, with P open as the innermost record
      rec' : {r : ℕ} {fs : Fields} {P : Path} {O : List Path} {A T : Pieces}
          → LayFields fs P (P ∷ O) A T → Layout (rec r fs) P O A T
      -- as many elements as the number says, if an array can have them
      arr' : {r d : ℕ} {n : Num} {τ : Ty} {P : Path} {O : List Path} {A T : Pieces} {z : Number}
          → number m A O n ≡ Ok z → elements_of z ≡ Some d → LayElements τ P O 0 d A T
          → Layout (arr r n τ) P O A T
      -- the type that the truth chooses
      alt' : {r : ℕ} {t : Truth} {τ σ : Ty} {P : Path} {O : List Path} {A T : Pieces} {b : Bool}
          → truth m A O t ≡ Ok b → Layout (cond b τ σ) P O A T → Layout (alt r t τ σ) P O A T

    -- each field at P.name, after A and the fields before it
    pub data LayFields : Fields → Path → List Path → Pieces → Pieces → Type 0 where
      none' : {P : Path} {O : List Path} {A : Pieces} → LayFields none P O A []
      fld' : {n : Name} {τ : Ty} {fs : Fields} {P : Path} {O : List Path} {A T U : Pieces}
          → Layout τ (P ▸ field n) O A T → LayFields fs P O (A ++ T) U
          → LayFields (fld n τ fs) P O A (T ++ U)

    -- `LayElements τ P O i k A T`: k elements from P[i] on, each after A and those before it
    pub data LayElements : Ty → Path → List Path → ℕ → ℕ → Pieces → Pieces → Type 0 where
      done' : {τ : Ty} {P : Path} {O : List Path} {i : ℕ} {A : Pieces}
          → LayElements τ P O i 0 A []
      elem' : {τ : Ty} {P : Path} {O : List Path} {i k : ℕ} {A T U : Pieces}
          → Layout τ (P ▸ element i) O A T → LayElements τ P O (suc i) k (A ++ T) U
          → LayElements τ P O i (suc k) A (T ++ U)
