-- What the refusals of reads, writes and captures stand for.
use Rattle.std.specs.Prelude.{ℕ, Some}
use Rattle.told.specs.declared.Told.{Told}
use Rattle.told.specs.Answers.{bare}
use Rattle.cells.specs.declared.cell.Mark.{Mark}
use Rattle.cells.specs.declared.cell.ReadFault.{ReadFault}
use Rattle.cells.specs.declared.cell.ReadFault.TheVariants.{PastEnd, LostCell}
use Rattle.cells.specs.declared.cell.CaptureFault.{CaptureFault}

-- 31: there is no cell k. It carries k
abbrev pub past_end : ℕ → Told
past_end k = record (bare 31) { place = Some k }

-- 32: a pair of a capture is bad or cut. It carries the place of the pair's first character
abbrev pub bad_pair : ℕ → Told
bad_pair p = record (bare 32) { place = Some p }

-- 33: the cell is lost. It carries the place and the layers of its mark
abbrev pub lost_cell : Mark → Told
lost_cell m = record (bare 33) { lost = Some m.place; layers = Some m.layers }

abbrev pub read_told : ReadFault → Told
read_told (PastEnd k) = past_end k
read_told (LostCell m) = lost_cell m

abbrev pub capture_told : CaptureFault → Told
capture_told f = bad_pair f.place
