-- The next of the kept pieces.
use Rattle.std.proofs.Common.{◌≡◌, ℕ, ◌<◌, true, List, [], ◌∷◌, ◌++◌, length, take, Some, ap}
use Rattle.std.proofs.Common.{◌∙◌}
use Rattle.std.specs.List.{slice_get}
use Rattle.std.specs.Option.{option_map}
use Rattle.std.proofs.lemmas.List.{length-map, map_push}
use Rattle.std.proofs.lemmas.Option.{slice_get-map}
use Rattle.list.proofs.Fronts.{nth_take}
use Rattle.path.specs.declared.Piece.{Piece}
use Rattle.meaning.specs.Terms.{PieceSpec, piece_of, pieces_of}
use Rattle.meaning.specs.Kept.{same_piece, is_piece, follows}
use Rattle.laws.proofs.Rereads.{same_piece_equal}
use Rattle.walk.specs.Placers.{kept_of}

module _ (kept n : ℕ) (xs ps : List Piece) (counted : length ps ≡ n) (p : PieceSpec) where
  next : follows (kept_of kept xs) (pieces_of ps) p
      ≡ is_piece (option_map piece_of (slice_get (take kept xs) n)) p
  next =
      ap (λ k. is_piece (slice_get (pieces_of (take kept xs)) k) p)
      (length-map ps piece_of ∙ counted)
      ∙ ap (λ o. is_piece o p) (slice_get-map piece_of (take kept xs) n)

  pub next_kept : (x : Piece) → n < kept → slice_get xs n ≡ Some x
      → follows (kept_of kept xs) (pieces_of ps) p ≡ same_piece (piece_of x) p
  next_kept x h e = next ∙ ap (λ o. is_piece (option_map piece_of o) p) (nth_take kept xs n h ∙ e)

-- the piece that is passed stands behind those placed
pub one_passed : (ps qs : List Piece) (x : Piece) (p : PieceSpec) → qs ≡ ps ++ x ∷ []
    → same_piece (piece_of x) p ≡ true → pieces_of qs ≡ pieces_of ps ++ p ∷ []
one_passed ps qs x p e s = ap pieces_of e ∙ map_push piece_of ps x
    ∙ ap (λ y. pieces_of ps ++ y ∷ []) (same_piece_equal (piece_of x) p s)
