-- What laying a message answers, and what it leaves in a list, in terms of readings.
use Rattle.std.specs.Prelude.{◌≡◌, ◌↔◌, ℕ, ◌≤◌, List, ◌++◌, length, drop, Ok, Err, Result, IsOk}
use Rattle.cells.specs.declared.cell.Cell.{Cell}
use Rattle.sheet_text.specs.declared.row.Row.{Row}
use Rattle.meaning.specs.Terms.{PieceSpec, total}
use Rattle.meaning.specs.Readings.{Reads}
use Rattle.laws.specs.Stops.{LayingStops}
use Rattle.meaning.specs.declared.fault.LayFault.{LayFault}
use Rattle.reading.specs.declared.answers.Cover.{Cover}
use Rattle.reading.specs.declared.refusals.LayRefusal.{LayRefusal}

module _ (text : List ℕ) (rows : List Row) (cells : List Cell) (before : List PieceSpec) where
  -- a reading that the list has places for
  abbrev pub Fits : List PieceSpec → Type 0
  Fits T = Reads text rows cells T × (length T ≤ length before)

  -- the answer, and the list: the pieces placed stand first, and later entries are as before
  pub data Lays : Result Cover LayRefusal → List PieceSpec → Type 0 where
    laid : {T : List PieceSpec} → Fits T
        → Lays (Ok (record { pieces = length T; width = total T })) (T ++ drop (length T) before)
    -- laying stops with the pieces A placed, at row r, for e
    stopped : {A : List PieceSpec} {e : LayFault} {r : ℕ}
        → LayingStops text rows cells (length before) A e r
        → Lays (Err (record { fault = e; row = r; place = total A; pieces = length A }))
        (A ++ drop (length A) before)

  -- laying is accepted exactly when a reading fits, and no other answer and list are possible
  pub record LaysReading (answer : Result Cover LayRefusal) (after : List PieceSpec) : Type 0 where
    pub lays : Lays answer after
    pub accepts : IsOk answer ↔ ((T : List PieceSpec) × Fits T)
    pub only : (r : Result Cover LayRefusal) (U : List PieceSpec) → Lays r U
        → (r ≡ answer) × (U ≡ after)
