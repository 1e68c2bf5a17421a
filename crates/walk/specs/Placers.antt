-- What the placers of base rows leave of the memory of a list.
use Rattle.std.specs.Prelude.{◌≡◌, ℕ, ◌≤◌, List, length, take, drop, refl}
use Rattle.list.specs.declared.BoundedList.{BoundedList}
use Rattle.list.specs.Contents.{backing, room, used}
use Rattle.std.proofs.Common.{arith}
use Rattle.path.specs.declared.Piece.{Piece}
use Rattle.laws.proofs.Accepts.{taken_inside}
use Rattle.meaning.specs.Terms.{PieceSpec, pieces_of}
use Rattle.meaning.specs.Bars.{Bars, places, only, EndsWithin}

-- recording leaves as many places, and the entries behind the pieces in use as they were
pub record Recorded (memory : List Piece) (l : BoundedList Piece) : Type 0 where
  pub places : room l ≡ length memory
  pub rest : drop (used l) (backing l) ≡ drop (used l) memory

pub recorded_nothing : (l : BoundedList Piece) → Recorded (backing l) l
recorded_nothing l = record { places = refl; rest = refl }

-- the kept pieces: the first entries
abbrev pub kept_of : ℕ → List Piece → List PieceSpec
kept_of kept entries = pieces_of (take kept entries)

-- what placing keeps, of l in m: which pieces are barred and why, whatever was left of earlier
-- entries, and whose memory it is
pub record Keeps (bars : List Piece → Bars) (leaves : List Piece → BoundedList Piece → Type 0)
    (l m : BoundedList Piece) : Type 0 where
  pub bars_same : bars (backing m) ≡ bars (backing l)
  pub leaves_more : (entries : List Piece) → leaves entries l → leaves entries m
  pub lender : m.entries.ghost_name ≡ l.entries.ghost_name

-- what these take ends within as many cells
pub places_end : (len room : ℕ) → len ≤ 65535 → EndsWithin 65535 (places len room)
places_end len room few A p h = let e = (taken_inside len p _ h).0 in omega arith

pub only_end : (len : ℕ) (T : List PieceSpec) → len ≤ 65535 → EndsWithin 65535 (only len T)
only_end len T few A p h = let e = (taken_inside len p _ h).0 in omega arith
