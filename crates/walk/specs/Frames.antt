-- The open rows of a walk, and what comes of the pieces placed so far once they are worked off.
use Rattle.meaning.specs.Values.{Message}
use Rattle.std.specs.Prelude.{ℕ, ◌-◌, List, [], ◌∷◌, map, reverse, Option}
use Rattle.list.specs.declared.BoundedList.{BoundedList}
use Rattle.list.specs.Contents.{contents}
use Rattle.path.specs.Meaning.{element, path_of}
use Rattle.path.specs.declared.Piece.{Piece}
use Rattle.sheet_text.specs.declared.row.Row.{Row}
use Rattle.opened.specs.Opens.{records_of}
use Rattle.meaning.specs.Terms.{Path, PieceSpec, pieces_of}
use Rattle.meaning.specs.Stands.{type_at, fields_at}
use Rattle.meaning.specs.Layouts.{◌▸◌}
use Rattle.meaning.specs.Matcher.{Laid, accepted, ◌onward◌, repeated, lay, lay_fields}
use Rattle.walk.specs.declared.frames.Frame.{Frame}
use Rattle.walk.specs.declared.frames.Frame.TheVariants.{Front, Record, Array}
use Rattle.meaning.specs.Bars.{Bars}

-- Each at a path, with the records that are open there, innermost first.
pub data Open : Type 0 where
  -- the row in front, not opened yet
  in_front : Path → List Path → ℕ → Open
  -- a record, itself the innermost of the open ones, and its next field
  in_record : Path → List Path → Option ℕ → Open
  -- an array: its element, the number of the next one, and how many are left
  in_array : Path → List Path → ℕ → ℕ → ℕ → Open

abbrev pub frame_of : Frame → Open
frame_of (Front here row) = in_front (path_of here.path) (records_of here) row
frame_of (Record here next) = in_record (path_of here.path) (records_of here) next
frame_of (Array here of index count) =
    in_array (path_of here.path) (records_of here) of index (count - index)

-- the open rows of a list, the innermost first
abbrev pub open_of : BoundedList Frame → List Open
open_of l = reverse (map frame_of (contents l))

-- the pieces of a list
abbrev pub placed_of : BoundedList Piece → List PieceSpec
placed_of l = pieces_of (contents l)

module _ (text : List ℕ) (rows : List Row) (message : Message) (bars : Bars) where
  -- one open row is worked off
  abbrev pub through : Open → List PieceSpec → Laid
  through (in_front P O r) A = lay message bars (type_at text rows r) P O A
  through (in_record P O f) A = lay_fields message bars (fields_at text rows f) P O A
  through (in_array P O t i k) A = repeated
      (λ j B. lay message bars (type_at text rows t) (P ▸ element j) O B) i k A

  -- all of them
  abbrev pub resume : List Open → List PieceSpec → Laid
  resume [] A = accepted A
  resume (f ∷ K) A = through f A onward resume K
