-- What the refusals of evaluation and of laying stand for.
use Rattle.std.specs.Prelude.{ℕ, List, length, Some}
use Rattle.told.specs.declared.Told.{Told}
use Rattle.told.specs.Answers.{bare}
use Rattle.cells.specs.Refusals.{lost_cell}
use Rattle.cells.specs.declared.cell.ReadFault.{ReadFault}
use Rattle.cells.specs.declared.cell.ReadFault.TheVariants.{PastEnd, LostCell}
use Rattle.meaning.specs.declared.fault.EvalFault.{EvalFault}
use Rattle.meaning.specs.declared.fault.EvalFault.TheVariants.{NoValue, Lost}
use Rattle.meaning.specs.declared.fault.LayFault.{LayFault}
use Rattle.meaning.specs.declared.fault.LayFault.TheVariants as fault
use Rattle.meaning.specs.Terms.{PieceSpec, total}

-- what a refused read becomes: a cell past the end has no value, and a lost one hands its mark on
abbrev pub from_read : ReadFault → EvalFault
from_read (PastEnd k) = NoValue
from_read (LostCell m) = Lost m

-- 16: a consulted cell is lost. It carries the 33 whole
abbrev pub consulted_lost : Told → Told
consulted_lost t = record t { number = 16 }

-- 16 for a lost cell, and 12 for every other fault
abbrev pub eval_told : EvalFault → Told
eval_told (Lost m) = consulted_lost (lost_cell m)
eval_told _ = bare 12

-- the numbers of laying's refusals; a piece that is not the next of the kept ones stands for 24
abbrev pub fault_told : LayFault → Told
fault_told fault.PastEnd = bare 11
fault_told fault.Void = bare 13
fault_told fault.Full = bare 14
fault_told fault.NotKept = bare 24
fault_told fault.TooMany = bare 15
fault_told (fault.Eval e) = eval_told e

-- a refusal also carries the row in front, the place reached and the number of pieces placed
abbrev pub reached : ℕ → List PieceSpec → Told → Told
reached r A t = record t { row = Some r; place = Some (total A); pieces = Some (length A) }
