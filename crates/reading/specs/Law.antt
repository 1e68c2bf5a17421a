-- The law of readings: over a run of calls, and whole.
use Rattle.std.specs.Prelude.{◌≡◌, ℕ, List}
use Rattle.sheet_text.specs.declared.row.Row.{Row}
use Rattle.meaning.specs.Readings.{OneReading}
use Rattle.reading.specs.States.{State, Settled}
use Rattle.reading.specs.Steps.{Asked, lay, Said, Step, Run}

module _ (text : List ℕ) (rows : List Row) where
  pub record Law (s : State) (calls : List Asked) (said : List Said) (t : State) : Type 0 where
    -- of all lists of pieces at most one is a reading of a message by the sheet
    pub one : OneReading text rows
    -- the calls lead from the start to the end, each told and leaving what readings say, and each
    -- leaving a settled state settled
    pub runs : Run text rows s calls said t
    -- so at the end, too, nothing is laid or the kept pieces are the reading of the store as it is
    pub settled : Settled text rows s → Settled text rows t
    -- no other answers and no other end are possible
    pub once : (s t u : State) (calls : List Asked) (as' bs : List Said)
        → Run text rows s calls as' t → Run text rows s calls bs u → (as' ≡ bs) × (t ≡ u)

  -- a message is laid, from m to n; calls lead from s to t, which is settled
  pub record LawOfReadings (m : State) (told : Said) (n : State) (s : State) (calls : List Asked)
      (said : List Said) (t : State) : Type 0 where
    pub lays : Step text rows m lay told n
    pub law : Law s calls said t
    pub settled : Settled text rows t
