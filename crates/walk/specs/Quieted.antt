-- Rows that place nothing as things stand, and open rows that go on without them.
use Rattle.std.specs.Prelude.{◌≡◌, ℕ, ◌+◌, ◌*◌, ◌<◌, ◌≤◌, Bool, true, false, List, drop, Option}
use Rattle.std.specs.Prelude.{slice_index_or}
use Rattle.sheet.specs.Sheets.{rows_of, text_of}
use Rattle.sheet.specs.declared.checked.CheckedSheet.{CheckedSheet}
use Rattle.sheet_text.specs.declared.row.Row.{Row}
use Rattle.meaning.specs.Terms.{Path, PieceSpec}
use Rattle.meaning.specs.Stands.{type_at, fields_at}
use Rattle.meaning.specs.Values.{Message}
use Rattle.laws.specs.Quiet.{Quiet, QuietFields}
use Rattle.walk.specs.Frames.{Open, through, resume}
use Rattle.walk.specs.Turns.{turns_of, turns_left, Shallow, AllShallow}
use Rattle.meaning.specs.Bars.{Bars}

module _ (s : CheckedSheet) (message : Message) (A : List PieceSpec) (O : List Path) (k : ℕ) where
  -- the type of a row places nothing after A, with the records O open, of which the first k are
  -- opened inside
  abbrev pub QuietRow : ℕ → Type 0
  QuietRow r = Quiet message A (drop k O) k (type_at (text_of s) (rows_of s) r)

  -- nor do the fields from one on
  abbrev pub QuietRest : Option ℕ → Type 0
  QuietRest f = QuietFields message A (drop k O) k (fields_at (text_of s) (rows_of s) f)

-- what was found quiet is noted row by row, for each number of records up to 8 that are open inside
abbrev pub spot_of : ℕ → ℕ → ℕ
spot_of r k = r * 9 + k

pub record Noted (s : CheckedSheet) (message : Message) (A : List PieceSpec) (O : List Path)
    (notes : List Bool) : Type 0 where
  pub quiet : (r k : ℕ) → k < 9 → slice_index_or notes (spot_of r k) false ≡ true
      → Quiet message A O k (type_at (text_of s) (rows_of s) r)

-- an open row f comes to the same as another, whatever takes the pieces, and takes no more turns
pub record StandsFor (text : List ℕ) (rows : List Row) (message : Message) (A : List PieceSpec)
    (e f : Open) : Type 0 where
  pub same : (bars : Bars) → through text rows message bars e A ≡ through text rows message bars f A
  pub shallow : (n : ℕ) → Shallow text rows e n → Shallow text rows f n
  pub no_more : turns_of text rows f ≤ turns_of text rows e

-- and open rows L to the same as K
pub record Hushed (text : List ℕ) (rows : List Row) (message : Message) (A : List PieceSpec)
    (K L : List Open) : Type 0 where
  pub same : (bars : Bars) → resume text rows message bars K A ≡ resume text rows message bars L A
  pub shallow : AllShallow text rows L
  pub no_more : turns_left text rows L ≤ turns_left text rows K
