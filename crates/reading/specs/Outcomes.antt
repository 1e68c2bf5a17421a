-- What single calls come to, as it is told.
use Rattle.std.specs.Prelude.{◌≡◌, ℕ, ◌+◌, min, cond, List, ◌++◌, length, drop, Some, None}
use Rattle.std.specs.Prelude.{Ok, Err, Option, Result, ◌==◌, nat_le, slice_range}
use denote.Ref.{Bor}
use Rattle.told.specs.declared.Told.{Told}
use Rattle.told.specs.Answers.{Answer, given, refused, bare}
use Rattle.cells.specs.declared.cell.Cell.{Cell}
use Rattle.cells.specs.Changed.{with_bytes}
use Rattle.cells.specs.Refusals.{past_end}
use Rattle.sheet_text.specs.declared.row.Row.{Row}
use Rattle.meaning.specs.Terms.{PieceSpec, piece_of, total}
use Rattle.path.specs.declared.Piece.{Piece}
use Rattle.meaning.specs.Matcher.{Laid, accepted}
use Rattle.meaning.specs.Matcher
use Rattle.laws.specs.Rereads.{reread}
use Rattle.reading.specs.declared.answers.Cover.{Cover}
use Rattle.reading.specs.declared.answers.Found.{Found}
use Rattle.reading.specs.declared.refusals.LayRefusal.{LayRefusal}
use Rattle.reading.specs.declared.refusals.FindRefusal.{FindRefusal}
use Rattle.reading.specs.declared.refusals.ShowRefusal.{ShowRefusal}
use Rattle.reading.specs.Refusals.{lay_refusal_told, find_told, show_told}
use Rattle.reading.specs.States.{kept, named, absent}

-- an answer of lay: the number of pieces and the covered length
abbrev pub cover_told : Result Cover LayRefusal → Answer (ℕ × ℕ)
cover_told (Ok q) = given (q.pieces, q.width)
cover_told (Err e) = refused (lay_refusal_told e)

-- how many pieces are laid then
abbrev pub laid_by : Result Cover LayRefusal → Option ℕ
laid_by (Ok q) = Some q.pieces
laid_by (Err e) = None

-- how many pieces it placed, accepted or not
abbrev pub count_of : Result Cover LayRefusal → ℕ
count_of (Ok q) = q.pieces
count_of (Err e) = e.pieces

-- what an answer says of the matcher's outcome m, where A are the pieces placed
abbrev pub Placed : Laid → List PieceSpec → Result Cover LayRefusal → Type 0
Placed m A (Ok q) = (m ≡ accepted A) × (q.pieces ≡ length A) × (q.width ≡ total A)
Placed m A (Err e) =
    (m ≡ Matcher.refused e.fault e.row A) × (e.pieces ≡ length A) × (e.place ≡ total A)

-- the pieces that the matcher placed, accepted or not
abbrev pub pieces_in : Laid → List PieceSpec
pieces_in (accepted T) = T
pieces_in (Matcher.refused e r A) = A

-- the entries of a piece list after a laying: those pieces, and the later entries as they were
abbrev pub laid_over : Laid → List PieceSpec → List PieceSpec
laid_over m ps = pieces_in m ++ drop (length (pieces_in m)) ps

-- the piece, or a refusal
abbrev pub or_refused : Told → Option PieceSpec → Answer PieceSpec
or_refused t None = refused t
or_refused t (Some p) = given p

-- the piece that a call means: 21 if nothing is laid, 22 if no kept piece has the path
abbrev pub meant : Option ℕ → List PieceSpec → List ℕ → Answer PieceSpec
meant laid T path = or_refused (absent laid) (named (kept laid T) path)

-- a piece that was looked up for a call
abbrev pub piece_told : Result Piece FindRefusal → Answer PieceSpec
piece_told (Ok p) = given (piece_of p)
piece_told (Err e) = refused (find_told e)

-- with the piece, if there is one
abbrev pub with_piece : {X : Type 0} → Answer PieceSpec → (PieceSpec → Answer X) → Answer X
with_piece (given p) f = f p
with_piece (refused t) f = refused t

-- find: its row, place and width
abbrev pub found_as : PieceSpec → Answer Found
found_as p = given (record { row = p.row; place = p.place; width = p.width })

-- show: its bytes, or 31 with the number of cells
abbrev pub shown_as : List ℕ → PieceSpec → Answer (List ℕ)
shown_as bytes p =
    cond (nat_le (p.place + p.width) (min 65535 (length bytes)))
    (given (slice_range bytes p.place (p.place + p.width)))
    (refused (past_end (min 65535 (length bytes))))

abbrev pub shown_of : Option ℕ → List PieceSpec → List ℕ → List ℕ → Answer (List ℕ)
shown_of n T bytes path = with_piece (meant n T path) (shown_as bytes)

abbrev pub bytes_told : Result (Bor (List ℕ)) ShowRefusal → Answer (List ℕ)
bytes_told (Ok b) = given b.now
bytes_told (Err e) = refused (show_told e)

-- what is shown is that part of the bytes, in their own memory
abbrev pub IsPart : Answer PieceSpec → Bor (List ℕ) → Result (Bor (List ℕ)) ShowRefusal → Type 0
IsPart (given p) bytes (Ok part) = part.ref_ptr ≡ (bytes.ref_ptr.0, bytes.ref_ptr.1 + p.place)
IsPart (given p) bytes (Err e) = Unit {0}
IsPart (refused t) bytes r = Unit {0}

-- put: 23, then 24 where the kept pieces are no reading of the changed bytes
abbrev pub put_as : List ℕ → List Row → List Cell → List PieceSpec → List ℕ → PieceSpec
    → Answer Unit
put_as text rows cells T bytes p =
    cond (length bytes == p.width)
    (cond (reread text rows (with_bytes cells p.place bytes) T) (given tt) (refused (bare 24)))
    (refused (bare 23))

abbrev pub put_of : List ℕ → List Row → List Cell → Option ℕ → List PieceSpec → List ℕ → List ℕ
    → Answer Unit
put_of text rows cells n T path bytes =
    with_piece (meant n T path) (put_as text rows cells (kept n T) bytes)

-- the cells that a put leaves, by the piece that it means and its answer
abbrev pub put_leaves : Answer PieceSpec → Answer Unit → List Cell → List ℕ → List Cell
put_leaves (given p) (given x) cells bytes = with_bytes cells p.place bytes
put_leaves (given p) (refused t) cells bytes = cells
put_leaves (refused t) a cells bytes = cells
