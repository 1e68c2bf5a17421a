-- The kept pieces, walked over.
use Rattle.std.proofs.Common.{◌≡◌, ℕ, Bool, false, List, length, take, Option, ◌==◌, sym, ap, ap₂}
use Rattle.std.proofs.Common.{◌∙◌}
use Rattle.std.specs.List.{take-map}
use Rattle.std.specs.Option.{unwrap_or}
use Rattle.std.proofs.lemmas.List.{length-map}
use Rattle.cells.specs.declared.cell.Cell.{Cell}
use Rattle.sheet_text.specs.declared.row.Row.{Row}
use Rattle.path.specs.declared.Piece.{Piece}
use Rattle.meaning.specs.Terms.{PieceSpec, piece_of, pieces_of}
use Rattle.meaning.specs.Matcher.{Laid, accepted, refused, matched}
use Rattle.meaning.specs.declared.fault.LayFault.{LayFault}
use Rattle.meaning.specs.Values.{over}
use Rattle.meaning.specs.Bars.{only}
use Rattle.laws.specs.Rereads.{as_many, reread}
use Rattle.reading.specs.States.{kept}

module _ (text : List ℕ) (rows : List Row) (cells : List Cell) (len : ℕ)
    (long : len ≡ length cells) where
  -- what the matcher comes to where it places nothing but the pieces T
  abbrev retraced : List PieceSpec → Laid
  retraced T = matched text rows (over rows cells) (only len T)

  reread_by : (T : List PieceSpec) (x : Laid) → retraced T ≡ x
      → as_many x (length T) ≡ reread text rows cells T
  reread_by T x e =
      ap (λ y. as_many y (length T)) (sym e)
      ∙ ap (λ k. as_many (matched text rows (over rows cells) (only k T)) (length T)) long

  module _ (o : Option ℕ) (n : ℕ) (ps bs : List Piece) (count : n ≡ unwrap_or o 0)
      (same : bs ≡ ps) where
    kept_is : pieces_of (take n bs) ≡ kept o (pieces_of ps)
    kept_is = sym (take-map piece_of n bs) ∙ ap (λ (xs : List Piece). take n (pieces_of xs)) same
        ∙ ap (λ (k : ℕ). take k (pieces_of ps)) count

    pub walked_through : (placed : List Piece) (m w : ℕ)
        → retraced (pieces_of (take n bs)) ≡ accepted (pieces_of placed)
        → m ≡ length placed → w ≡ length (take n bs)
        → (m == w) ≡ reread text rows cells (kept o (pieces_of ps))
    walked_through placed m w e f g =
        ap₂ {C = Bool} (λ a b. a == b) (f ∙ sym (length-map placed piece_of))
        (g ∙ sym (length-map (take n bs) piece_of))
        ∙ reread_by (pieces_of (take n bs)) (accepted (pieces_of placed)) e
        ∙ ap (reread text rows cells) kept_is

    pub walk_refused : (f : LayFault) (r : ℕ) (A : List PieceSpec)
        → retraced (pieces_of (take n bs)) ≡ refused f r A
        → false ≡ reread text rows cells (kept o (pieces_of ps))
    walk_refused f r A e = reread_by (pieces_of (take n bs)) (refused f r A) e
        ∙ ap (reread text rows cells) kept_is
