-- Pieces that are kept from a laying.
use Rattle.std.specs.Prelude.{Bool, false, ◌&&◌, List, length, Some, None, Option, ◌==◌}
use Rattle.std.specs.List.{slice_get}
use Rattle.path.specs.Meaning.{same_path}
use Rattle.meaning.specs.Terms.{PieceSpec}

abbrev pub same_piece : PieceSpec → PieceSpec → Bool
same_piece p q = same_path p.path q.path &&
    ((p.row == q.row) && ((p.place == q.place) && (p.width == q.width)))

abbrev pub is_piece : Option PieceSpec → PieceSpec → Bool
is_piece None p = false
is_piece (Some q) p = same_piece q p

-- kept pieces take nothing but themselves, in their order
abbrev pub follows : List PieceSpec → List PieceSpec → PieceSpec → Bool
follows T A p = is_piece (slice_get T (length A)) p
