-- A find as a step.
use Rattle.std.proofs.Common.{◌≡◌, ℕ, List, Some, None, Ok, Err, Option, Result, sym, refl, ap, ◌∙◌}
use Rattle.std.proofs.Common.{subst}
use Rattle.told.specs.Answers.{Answer, given, refused, as_told}
use Rattle.cells.specs.declared.cell.Cell.{Cell}
use Rattle.sheet_text.specs.declared.row.Row.{Row}
use Rattle.meaning.specs.Terms.{PieceSpec}
use Rattle.reading.specs.declared.answers.Found.{Found}
use Rattle.reading.specs.declared.refusals.FindRefusal.{FindRefusal}
use Rattle.reading.specs.Calls.{find_said}
use Rattle.reading.specs.Outcomes.{found_as, meant, or_refused, with_piece}
use Rattle.reading.specs.Refusals.{find_told}
use Rattle.reading.specs.States.{State, kept, named, absent}
use Rattle.reading.specs.Steps.{Said, finds, refuses, Made, Step, find, on, missing, meets, found}
use Rattle.reading.proofs.Settling.{made}

-- what a find that is so told says
abbrev said_as : Answer Found → Said
said_as (given f) = finds f.row f.place f.width
said_as (refused t) = refuses t None

same_said : (r : Result Found FindRefusal) → said_as (as_told find_told r) ≡ find_said r
same_said (Ok f) = refl
same_said (Err e) = refl

module _ (text : List ℕ) (rows : List Row) (cells : List Cell) (T : List PieceSpec) (o : Option ℕ)
    (path : List ℕ) where
  abbrev state : List PieceSpec → State
  state U = record { cells = cells; entries = U; laid = o }

  step_by : (q : Option PieceSpec) → named (kept o T) path ≡ q
      → Step text rows (state T) (on path find)
      (said_as (with_piece (or_refused (absent o) q) found_as)) (state T)
  step_by (Some p) e = meets e found
  step_by None e = missing e

  pub find_made : (r : Result Found FindRefusal) (U : List PieceSpec)
      → as_told find_told r ≡ with_piece (meant o T path) found_as → U ≡ T
      → Made text rows (state T) (on path find) (find_said r) (state U)
  find_made r U e f =
      made text rows
      (subst (λ a. Step text rows (state T) (on path find) a (state U))
      (sym (ap said_as e) ∙ same_said r)
      (subst (λ V. Step text rows (state T) (on path find)
      (said_as (with_piece (meant o T path) found_as)) (state V)) (sym f)
      (step_by (named (kept o T) path) refl)))
