-- What an answer about a sheet means.
use Rattle.std.specs.Prelude.{◌≡◌, ℕ, ◌⊎◌, List, length, take, IfOk, Ok, Err, Result}
use Rattle.sheet_text.specs.Rows.{laid}
use Rattle.sheet_text.specs.States.{States, Fits}
use Rattle.sheet_text.specs.LineFaults.{LinesRefused}
use Rattle.sheet_text.specs.declared.refusal.Reason.{Reason}
use Rattle.sheet_text.specs.declared.refusal.SheetRefusal.{SheetRefusal}
use Rattle.sheet_text.specs.declared.row.Row.{Row}
use Rattle.sheet.specs.Keeps.{Keeps}
use Rattle.sheet.specs.Refusing.{Refused}

-- the answer about rows over a text: accepted exactly where they keep every rule, and refused exactly for the rule that is broken first
pub record Judges (text : List ℕ) (rows : List Row) (r : Result (Unit {0}) SheetRefusal) : Type 0 where
  pub keeps : r ≡ Ok tt → Keeps text rows
  pub accepts : Keeps text rows → r ≡ Ok tt
  pub refuses : (e : SheetRefusal) → r ≡ Err e → Refused text rows e.reason e.line
  pub exactly : (e : SheetRefusal) → Refused text rows e.reason e.line → r ≡ Err e

-- a line after those that state the rows is wrong, or the text states the rows and they break a rule
abbrev pub Wrong : List ℕ → ℕ → List Row → Reason → ℕ → Type 0
Wrong text places rows e line = LinesRefused text places rows e line ⊎ (Fits text places rows × Refused text rows e line)

-- the answer about a text that was read into a table, and what it left there
pub record Reads (text : List ℕ) (table left : List Row) (r : Result ℕ SheetRefusal) : Type 0 where
  -- accepted: the lines state the first rows of the table, as many as were counted, and these keep every rule
  pub stated : IfOk r (λ n. States text (take n left))
  pub keeps : IfOk r (λ n. Keeps text (take n left))
  -- where the lines state rows and there is room for them, they all stand in the table, and its later places are as before
  pub all : (rows : List Row) → Fits text (length table) rows → left ≡ laid rows table
  -- such rows are accepted if they keep every rule
  pub accepts : (rows : List Row) → Fits text (length table) rows → Keeps text rows → r ≡ Ok (length rows)
  -- refused: a line is wrong, and the rows ahead of it stand in the table; or all rows do, and break a rule
  pub refuses : (e : SheetRefusal) → r ≡ Err e → (rows : List Row) × ((left ≡ laid rows table) × Wrong text (length table) rows e.reason e.line)
  -- and this is the refusal that is given
  pub exactly : (rows : List Row) (e : SheetRefusal) → Wrong text (length table) rows e.reason e.line → (r ≡ Err e) × (left ≡ laid rows table)
