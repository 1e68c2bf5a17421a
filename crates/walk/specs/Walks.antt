-- What a walk comes to.
use Rattle.std.specs.Prelude.{◌≡◌, ℕ, ◌<◌, ◌≤◌, List, Some, None, Option, Ok, Err, Result}
use Rattle.std.specs.Prelude.{MatchResult}
use Rattle.sheet.specs.Sheets.{rows_of, text_of}
use Rattle.sheet.specs.declared.checked.CheckedSheet.{CheckedSheet}
use Rattle.sheet_text.specs.declared.row.Row.{Row}
use Rattle.meaning.specs.Terms.{PieceSpec, total, Number}
use Rattle.meaning.specs.Values.{Outcome, Message, elements_of}
use Rattle.meaning.specs.Matcher.{Laid, accepted, refused}
use Rattle.meaning.specs.declared.fault.LayFault.TheVariants as fault
use Rattle.walk.specs.declared.fault.Halt.{Halt}
use Rattle.walk.specs.Frames.{Open, through, resume}
use Rattle.walk.specs.Turns.{turns_of, turns_left, Shallow, AllShallow}
use Rattle.meaning.specs.Bars.{Bars}
use Rattle.meaning.specs.declared.fault.LayFault.{LayFault}

-- a value that a row needs, or its refusal
abbrev pub needed_value : {V : Type 0} → Outcome V → Result V LayFault
needed_value (Ok v) = Ok v
needed_value (Err e) = Err (fault.Eval e)

-- how many elements an array has by its number, or the refusal of it
abbrev pub count_by : Option ℕ → Result ℕ LayFault
count_by (Some d) = Ok d
count_by None = Err fault.TooMany

abbrev pub counted : Outcome Number → Result ℕ LayFault
counted (Ok z) = count_by (elements_of z)
counted (Err e) = Err (fault.Eval e)

-- the place reached is the total width of the pieces, and no further than a message can be long
pub record Reached (A : List PieceSpec) (place : ℕ) : Type 0 where
  pub placed : place ≡ total A
  pub inside : place ≤ 65535

-- an open row f stands in for another, with n rows open around it
pub record StandsIn (text : List ℕ) (rows : List Row) (message : Message) (bars : Bars)
    (A : List PieceSpec) (n : ℕ) (e f : Open) : Type 0 where
  pub same : through text rows message bars e A ≡ through text rows message bars f A
  pub shallow : Shallow text rows f n
  pub fewer : turns_of text rows f < turns_of text rows e

-- open rows L stand in for others, whatever the message and the pieces are
pub record Parts (text : List ℕ) (rows : List Row) (K L : List Open) : Type 0 where
  pub same : (message : Message) (bars : Bars) (A : List PieceSpec)
      → resume text rows message bars K A ≡ resume text rows message bars L A
  pub shallow : AllShallow text rows L
  pub fewer : turns_left text rows L < turns_left text rows K

-- a turn leads from the open rows K and the pieces A to L and B, and comes to the same
pub record Turned (text : List ℕ) (rows : List Row) (message : Message) (bars : Bars)
    (K : List Open) (A : List PieceSpec) (L : List Open) (B : List PieceSpec) : Type 0 where
  pub same : resume text rows message bars K A ≡ resume text rows message bars L B
  pub shallow : AllShallow text rows L
  pub fewer : turns_left text rows L < turns_left text rows K

-- how a walk ends that comes to `whole`: the pieces A are all placed, or those ahead of what stops
-- it;
-- and the place reached
abbrev pub Ends : Laid → List PieceSpec → Result ℕ Halt → Type 0
Ends whole A r =
    MatchResult r (λ place. (whole ≡ accepted A) × Reached A place)
    (λ e. (whole ≡ refused e.fault e.row A) × Reached A e.place)

-- how a turn ends: the walk goes on, or stops
abbrev pub TurnEnds : CheckedSheet → Message → Bars → List Open → List PieceSpec → List Open
    → List PieceSpec → Result ℕ Halt → Type 0
TurnEnds s m bars K A L B r =
    MatchResult r (λ place. Turned (text_of s) (rows_of s) m bars K A L B × Reached B place)
    (λ e. (resume (text_of s) (rows_of s) m bars K A ≡ refused e.fault e.row B) × Reached B e.place)
