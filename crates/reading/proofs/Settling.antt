-- Every step leaves a settled state where it meets one.
use Rattle.std.proofs.Common.{◌≡◌, ℕ, List, length, drop, sym, subst, arith}
use Rattle.std.proofs.Math.Seq.{take-append_seam}
use Rattle.sheet_text.specs.declared.row.Row.{Row}
use Rattle.meaning.specs.Terms.{PieceSpec}
use Rattle.meaning.specs.Readings.{Reads}
use Rattle.reading.specs.States.{State, Settled}
use Rattle.reading.specs.Steps.{Asked, Task, Said, Done, found, not_wide, not_put, put'}
use Rattle.reading.specs.Steps.{Step, laid, stopped, lifted, missing, meets, Made, Run, done, more}

module _ (text : List ℕ) (rows : List Row) where
  done_settled : {s t : State} {p : PieceSpec} {k : Task} {a : Said} → Done text rows s p k a t
      → Settled text rows s → Settled text rows t
  done_settled found k = k
  done_settled (not_wide w) k = k
  done_settled (not_put w none) k = k
  done_settled (put' w reads) k = λ l. reads

  step_settled : {s t : State} {c : Asked} {a : Said} → Step text rows s c a t
      → Settled text rows s → Settled text rows t
  step_settled (laid {s = s} {T = T} reads fits) k =
      λ l. subst (Reads text rows s.cells) (sym (take-append_seam T (drop (length T) s.entries)))
      reads
  step_settled (stopped none stops) k = λ l. absurd (let z : ◌≡◌ {A = ℕ} 0 1 = cc in omega arith)
  step_settled lifted k = λ l. absurd (let z : ◌≡◌ {A = ℕ} 0 1 = cc in omega arith)
  step_settled (missing e) k = k
  step_settled (meets e d) k = done_settled d k

  pub made : {s t : State} {c : Asked} {a : Said} → Step text rows s c a t → Made text rows s c a t
  made step = record { step = step; settled = step_settled step }

  -- so does a run
  pub run_settled : {s t : State} {cs : List Asked} {as' : List Said} → Run text rows s cs as' t
      → Settled text rows s → Settled text rows t
  run_settled done k = k
  run_settled (more m r) k = run_settled r (m.settled k)
