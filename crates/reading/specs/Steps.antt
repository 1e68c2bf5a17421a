-- Runs of calls, in terms of readings.
use Rattle.std.specs.Prelude.{◌≡◌, ℕ, ◌<◌, ◌≤◌, List, [], ◌∷◌, ◌++◌, length, drop}
use Rattle.std.specs.Prelude.{Option, Some, None}
use Rattle.told.specs.declared.Told.{Told}
use Rattle.told.specs.Answers.{bare}
use Rattle.cells.specs.Changed.{with_bytes}
use Rattle.sheet_text.specs.declared.row.Row.{Row}
use Rattle.meaning.specs.Terms.{PieceSpec, total}
use Rattle.meaning.specs.declared.fault.LayFault.{LayFault}
use Rattle.meaning.specs.Readings.{Reads}
use Rattle.meaning.specs.Refusals.{fault_told, reached}
use Rattle.laws.specs.Stops.{LayingStops}
use Rattle.reading.specs.States.{State, kept, named, absent, Settled}

-- what is asked of a piece: where it is, or to take new bytes
pub data Task : Type 0 where
  find : Task
  put : List ℕ → Task

-- what is asked, of the piece with a path in print or of all
pub data Asked : Type 0 where
  lay lift : Asked
  on : List ℕ → Task → Asked

-- what is told
pub data Said : Type 0 where
  -- the number of pieces and their total width
  covers : ℕ → ℕ → Said
  -- a row, a place and a width
  finds : ℕ → ℕ → ℕ → Said
  accepts lifts : Said
  -- a refusal, and why laying stops if that is what is told
  refuses : Told → Option LayFault → Said

module _ (text : List ℕ) (rows : List Row) where
  -- what the kept piece p gives, and what it leaves
  pub data Done (s : State) (p : PieceSpec) : Task → Said → State → Type 0 where
    found : Done s p find (finds p.row p.place p.width) s
    -- not so many bytes as the piece is wide
    not_wide : {bytes : List ℕ} → ¬ (length bytes ≡ p.width)
        → Done s p (put bytes) (refuses (bare 23) None) s
    -- as many, but the kept pieces are no reading of the changed bytes
    not_put : {bytes : List ℕ} → length bytes ≡ p.width
        → ¬ Reads text rows (with_bytes s.cells p.place bytes) (kept s.laid s.entries)
        → Done s p (put bytes) (refuses (bare 24) None) s
    -- they are, and the bytes are written
    put' : {bytes : List ℕ} → length bytes ≡ p.width
        → Reads text rows (with_bytes s.cells p.place bytes) (kept s.laid s.entries)
        → Done s p (put bytes) accepts (record s { cells = with_bytes s.cells p.place bytes })

  -- what a call is told, and what it leaves
  pub data Step : State → Asked → Said → State → Type 0 where
    -- the reading fits the list: it stands first there, and is laid
    laid : {s : State} {T : List PieceSpec} → Reads text rows s.cells T
        → length T ≤ length s.entries → Step s lay (covers (length T) (total T))
        (record s { entries = T ++ drop (length T) s.entries; laid = Some (length T) })
    -- none fits: laying stops, the pieces A placed by then stand first, and nothing is laid
    stopped : {s : State} {e : LayFault} {r : ℕ} {A : List PieceSpec}
        → ((T : List PieceSpec) → Reads text rows s.cells T → length s.entries < length T)
        → LayingStops text rows s.cells (length s.entries) A e r
        → Step s lay (refuses (reached r A (fault_told e)) (Some e))
        (record s { entries = A ++ drop (length A) s.entries; laid = None })
    lifted : {s : State} → Step s lift lifts (record s { laid = None })
    -- no kept piece has the path
    missing : {s : State} {path : List ℕ} {k : Task} → named (kept s.laid s.entries) path ≡ None
        → Step s (on path k) (refuses (absent s.laid) None) s
    -- a kept piece has it
    meets : {s t : State} {path : List ℕ} {p : PieceSpec} {k : Task} {a : Said}
        → named (kept s.laid s.entries) path ≡ Some p → Done s p k a t → Step s (on path k) a t

  -- a call that is made leaves a settled state where it meets one
  pub record Made (s : State) (c : Asked) (a : Said) (t : State) : Type 0 where
    pub step : Step s c a t
    pub settled : Settled text rows s → Settled text rows t

  -- calls made one after another
  pub data Run : State → List Asked → List Said → State → Type 0 where
    done : {s : State} → Run s [] [] s
    more : {s t u : State} {c : Asked} {a : Said} {cs : List Asked} {as' : List Said}
        → Made s c a t → Run t cs as' u → Run s (c ∷ cs) (a ∷ as') u
