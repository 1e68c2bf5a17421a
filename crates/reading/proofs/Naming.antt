-- The piece with a path in print, and the piece with the path that the text is read as.
use Rattle.std.proofs.Common.{◌≡◌, ℕ, Bool, cond, List, [], ◌∷◌, take, Some, None, Ok}
use Rattle.std.proofs.Common.{Err, Option, sym, refl, ap, ◌∙◌}
use Rattle.std.specs.List.{take-map}
use Rattle.std.specs.Cmp.{both_ways}
use Rattle.std.specs.Option.{option_map}
use Rattle.std.specs.Result.{result_ok}
use Rattle.std.specs.Str.{bytes_eq}
use Rattle.std.proofs.lemmas.Bool.{cond-false, false_from_ne_true}
use Rattle.std.proofs.lemmas.Slice.Eq.{bytes_eq-Decides}
use Rattle.path.proofs.Laws.{lawful_path}
use Rattle.path.specs.Equal.{path_decides}
use Rattle.path.specs.Lawful.{LawfulPath}
use Rattle.path.specs.Meaning.{Downward, path_of, same_path}
use Rattle.path.specs.Printed.{printed}
use Rattle.path.specs.declared.Path.{Path}
use Rattle.path.specs.declared.Piece.{Piece}
use Rattle.meaning.specs.Terms.{PieceSpec, piece_of, pieces_of}
use Rattle.meaning.specs.Values.{Outcome, known, placed}
use Rattle.list.specs.Contents.{or_else, last_of}
use Rattle.evaluate.specs.Evaluated.{as_piece}
use Rattle.reading.specs.States.{named}

-- a text that is read as a path, or as none
abbrev pub ReadAs : List ℕ → Option (List Downward) → Type 0
ReadAs text q = (ds : List Downward) → LawfulPath ds → printed ds ≡ text → q ≡ Some ds

-- no piece has it where it is no path
unnamed : (xs : List Piece) (text : List ℕ) → ReadAs text None → named (pieces_of xs) text ≡ None
unnamed [] text h = refl
unnamed (x ∷ xs) text h =
    ap (λ o. or_else o (cond (bytes_eq (printed (path_of x.path)) text) (Some (piece_of x)) None))
    (unnamed xs text h)
    ∙ cond-false (bytes_eq (printed (path_of x.path)) text) (Some (piece_of x)) None
    (false_from_ne_true (bytes_eq (printed (path_of x.path)) text)
    (λ e. let f = h (path_of x.path) (lawful_path x.path)
    ((bytes_eq-Decides (printed (path_of x.path)) text).0 e) in cc))

pub unnamed_first : (n : ℕ) (ps : List Piece) (text : List ℕ) → ReadAs text None
    → None ≡ named (take n (pieces_of ps)) text
unnamed_first n ps text h =
    sym (ap (λ (T : List PieceSpec). named T text) (take-map piece_of n ps)
    ∙ unnamed (take n ps) text h)

-- and otherwise the piece with that path does
same_test : (x : Piece) (text : List ℕ) (q : List Downward) → printed q ≡ text
    → ReadAs text (Some q)
    → same_path (path_of x.path) q ≡ bytes_eq (printed (path_of x.path)) text
same_test x text q e h =
    both_ways (same_path (path_of x.path) q) (bytes_eq (printed (path_of x.path)) text)
    (λ t. (bytes_eq-Decides (printed (path_of x.path)) text).1
    (ap printed ((path_decides (path_of x.path) q).0 t) ∙ e))
    (λ t.
    let f = h (path_of x.path) (lawful_path x.path)
    ((bytes_eq-Decides (printed (path_of x.path)) text).0 t) in
    let s : path_of x.path ≡ q = cc in
    (path_decides (path_of x.path) q).1 s)

-- so the last with the one is the last with the other
last_named : (xs : List Piece) (text : List ℕ) (q : List Downward) → printed q ≡ text
    → ReadAs text (Some q)
    → last_of (λ p. same_path p.path q) (pieces_of xs) ≡ named (pieces_of xs) text
last_named [] text q e h = refl
last_named (x ∷ xs) text q e h =
    ap (λ (b : Bool). or_else (last_of (λ p. same_path p.path q) (pieces_of xs))
    (cond b (Some (piece_of x)) None))
    (same_test x text q e h)
    ∙ ap (λ o. or_else o (cond (bytes_eq (printed (path_of x.path)) text) (Some (piece_of x)) None))
    (last_named xs text q e h)

ok_piece : (r : Outcome Piece) (o : Option PieceSpec) → as_piece r ≡ known o
    → option_map piece_of (result_ok r) ≡ o
ok_piece (Ok p) None e = absurd (let z : ◌≡◌ {A = ℕ} 0 1 = cc in cc)
ok_piece (Ok p) (Some s) e = let same : piece_of p ≡ s = cc in ap Some same
ok_piece (Err f) None e = refl
ok_piece (Err f) (Some s) e = absurd (let z : ◌≡◌ {A = ℕ} 0 1 = cc in cc)

pub named_first : (n : ℕ) (ps xs : List Piece) (text : List ℕ) (p : Path) (r : Outcome Piece)
    (k : Option Piece)
    → printed (path_of p) ≡ text → ReadAs text (Some (path_of p)) → xs ≡ take n ps
    → as_piece r ≡ placed (pieces_of xs) (path_of p)
    → k ≡ result_ok r → option_map piece_of k ≡ named (take n (pieces_of ps)) text
named_first n ps xs text p r k e h first is ok =
    ap (option_map piece_of) ok
    ∙ ok_piece r (named (pieces_of xs) text) (is ∙ ap known (last_named xs text (path_of p) e h))
    ∙ ap (λ (l : List Piece). named (pieces_of l) text) first
    ∙ ap (λ (T : List PieceSpec). named T text) (sym (take-map piece_of n ps))
