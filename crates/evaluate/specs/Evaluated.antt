-- The values of the rows of a sheet, over a message, a list of pieces and the open records.
use Rattle.std.specs.Prelude.{ℕ, Bool, List, Ok, Err, Option}
use Rattle.list.specs.declared.BoundedList.{BoundedList}
use Rattle.list.specs.Contents.{contents}
use Rattle.path.specs.declared.Piece.{Piece}
use Rattle.path.specs.Meaning.{Downward}
use Rattle.sheet.specs.Sheets.{rows_of, text_of}
use Rattle.sheet.specs.declared.checked.CheckedSheet.{CheckedSheet}
use Rattle.sheet_text.specs.declared.row.Row.{Row}
use Rattle.meaning.specs.Terms.{PieceSpec, piece_of, pieces_of, Number, Num, Steps, Truth}
use Rattle.meaning.specs.Stands.{from_at, number_at, steps_at, truth_at}
use Rattle.meaning.specs.Values.{Outcome, Message, unknown, ◌then◌, located, number, resolved}
use Rattle.meaning.specs.Values.{truth}
use Rattle.laws.specs.Unfolds.{number_of, steps_of, truth_of}
use Rattle.opened.specs.declared.Opened.{Opened}
use Rattle.opened.specs.Opens.{records_of}
use Rattle.evaluate.specs.Reaches.{extend}

abbrev pub as_piece : Outcome Piece → Outcome PieceSpec
as_piece (Ok p) = Ok (piece_of p)
as_piece (Err e) = Err e

module _ (m : Message) (s : CheckedSheet) (l : BoundedList Piece) (o : Opened) where
  abbrev pub number_as : Num → Outcome Number
  number_as n = number m (pieces_of (contents l)) (records_of o) n

  abbrev pub steps_as : Steps → Outcome (List Downward)
  steps_as n = resolved m (pieces_of (contents l)) (records_of o) n

  abbrev pub truth_as : Truth → Outcome Bool
  truth_as t = truth m (pieces_of (contents l)) (records_of o) t

  -- the value of a row
  abbrev pub number_value : ℕ → Outcome Number
  number_value r = number_as (number_at (text_of s) (rows_of s) r)

  abbrev pub truth_value : ℕ → Outcome Bool
  truth_value r = truth_as (truth_at (text_of s) (rows_of s) r)

  -- the piece that a location names
  abbrev pub piece_as : ℕ → Steps → Outcome PieceSpec
  piece_as c q = located (pieces_of (contents l)) (records_of o) c (steps_as q)

  -- that of a `from` row
  abbrev pub place_value : ℕ → Outcome PieceSpec
  place_value r =
      from_at (text_of s) (rows_of s) r (steps_at (text_of s) (rows_of s)) piece_as unknown

  -- the path after the steps from a row on
  abbrev pub reach_value : Option ℕ → Option (List Downward) → Outcome (Option (List Downward))
  reach_value r P = steps_as (steps_at (text_of s) (rows_of s) r) then λ q. Ok (extend P q)

  -- the same by a row in hand
  abbrev pub number_of_row : Row → Outcome Number
  number_of_row r = number_as (number_of (text_of s) (rows_of s) r)

  abbrev pub truth_of_row : Row → Outcome Bool
  truth_of_row r = truth_as (truth_of (text_of s) (rows_of s) r)

  abbrev pub reach_of_row : Row → Option (List Downward) → Outcome (Option (List Downward))
  reach_of_row r P = steps_as (steps_of (text_of s) (rows_of s) r) then λ q. Ok (extend P q)
