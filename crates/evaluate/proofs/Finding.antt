-- The piece with a path.
use Rattle.std.proofs.Common.{◌≡◌, Bool, true, false, cond, List, [], ◌∷◌, Some, None, Option, refl}
use Rattle.std.proofs.Common.{ap}
use Rattle.std.specs.Option.{option_map}
use Rattle.list.specs.Contents.{last_of, or_else}
use Rattle.path.specs.declared.Piece.{Piece}
use Rattle.path.specs.Equal.{path_decides}
use Rattle.path.specs.Meaning.{Downward, path_of, same_path}
use Rattle.meaning.specs.Terms.{PieceSpec, piece_of, pieces_of}
use Rattle.meaning.specs.Values.{unknown, placed, known}

-- the last piece of the list that passes, as its record keeps it
pub last_piece : (test : PieceSpec → Bool) (xs : List Piece)
    → last_of test (pieces_of xs) ≡ option_map piece_of (last_of (λ p. test (piece_of p)) xs)
last_piece test [] = refl
last_piece test (x ∷ xs) = go (last_of (λ p. test (piece_of p)) xs) (test (piece_of x))
    (last_piece test xs)
  where
    go : (r : Option Piece) (b : Bool) → last_of test (pieces_of xs) ≡ option_map piece_of r
        → or_else (last_of test (pieces_of xs)) (cond b (Some (piece_of x)) None)
        ≡ option_map piece_of (or_else r (cond b (Some x) None))
    go (Some y) b e = ap (λ o. or_else o (cond b (Some (piece_of x)) None)) e
    go None true e = ap (λ o. or_else o (Some (piece_of x))) e
    go None false e = ap (λ o. or_else o None) e

-- the last piece that has the path is the one placed with it
pub last_placed : (xs : List Piece) (q : List Downward)
    → placed (pieces_of xs) q ≡ known
    (option_map piece_of (last_of (λ p. same_path (path_of p.path) q) xs))
last_placed xs q = ap known (last_piece (λ p. same_path p.path q) xs)

-- no piece has a path that no path is
pub nowhere : (xs : List Piece) (q : List Downward) → ((x : Piece) → path_of x.path ≡ q → ⊥)
    → placed (pieces_of xs) q ≡ unknown
nowhere xs q h = ap known (none xs)
  where
    none : (ys : List Piece) → last_of (λ p. same_path p.path q) (pieces_of ys) ≡ None
    none [] = refl
    none (x ∷ ys) = go (last_of (λ p. same_path p.path q) (pieces_of ys))
        (same_path (path_of x.path) q) refl (none ys)
      where
        go : (o : Option PieceSpec) (b : Bool) → same_path (path_of x.path) q ≡ b → o ≡ None
            → or_else o (cond b (Some (piece_of x)) None) ≡ None
        go o true e later = absurd (h x ((path_decides _ _).0 e))
        go o false e later = ap (λ z. or_else z None) later
