-- A walk under way.
use Rattle.std.proofs.Common.{◌≡◌, ℕ, List, []}
use Rattle.sheet_text.specs.declared.row.Row.{Row}
use Rattle.meaning.specs.Terms.{PieceSpec}
use Rattle.walk.specs.Frames.{Open, resume}
use Rattle.walk.specs.Turns.{AllShallow}
use Rattle.walk.specs.Walks.{Reached}
use Rattle.meaning.specs.Values.{Message}
use Rattle.meaning.specs.Bars.{Bars}

-- the open rows K with the pieces A come to what the rows J did at first
pub record Running (text : List ℕ) (rows : List Row) (message : Message) (bars : Bars)
    (J K : List Open) (A : List PieceSpec) (place : ℕ) : Type 0 where
  pub same : resume text rows message bars K A ≡ resume text rows message bars J []
  pub shallow : AllShallow text rows K
  pub reached : Reached A place
