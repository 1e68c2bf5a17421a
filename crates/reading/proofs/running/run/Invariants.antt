use Rattle.std.proofs.Common.{◌≡◌, map, take, drop}
use Rattle.std.specs.List.{AllZip}
use Rattle.sheet.specs.Sheets.{rows_of, text_of}
use Rattle.reading.specs.Calls.{Replies, asked, said}
use Rattle.reading.specs.States.{state_of}
use Rattle.reading.specs.Steps.{Run}
use Rattle.reading.proofs.running.run.Given as goal

-- the calls so far are run, and answered
abbrev pub invariant-loop-i : goal.invariant-loop-i
invariant-loop-i g l =
    Run (text_of l.sheet) (rows_of l.sheet)
    (state_of (g.S.Source.cells l.initial.store) l.initial.pieces l.initial.laid)
    (map asked (take l.i l.calls)) (map said (take l.i l.answers))
    (state_of (g.S.Source.cells l.store) l.pieces l.laid)
    × AllZip Replies (take l.i l.calls) (take l.i l.answers)
    × (drop l.i l.answers ≡ drop l.i l.initial.answers)
    × (g.S.Store.spares l.store ≡ g.S.Store.spares l.initial.store)
    × (g.S.Store.fixed l.store ≡ g.S.Store.fixed l.initial.store)
