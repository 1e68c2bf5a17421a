-- Cells in print.
use Rattle.std.specs.Prelude.{ℕ, List, [], ◌∷◌, take, drop, Ok, Err, codes, Result}
use Rattle.std.specs.List.{flat_map}
use Rattle.cells.specs.declared.cell.Cell.{Cell}
use Rattle.cells.specs.declared.cell.Cell.TheVariants.{Byte, Lost}
use Rattle.cells.specs.declared.cell.ReadFault.{ReadFault}
use Rattle.line.specs.Digits.{hex_text}

-- two digits, or two dashes for a lost cell
abbrev pub cell_text : Cell → List ℕ
cell_text (Byte b) = hex_text b
cell_text (Lost m) = codes "--"

-- the same by what a read of the cell answers
abbrev pub answer_text : Result ℕ ReadFault → List ℕ
answer_text (Ok b) = hex_text b
answer_text (Err f) = codes "--"

-- all the cells, or one dash if there is none
abbrev pub bytes_text : List Cell → List ℕ
bytes_text [] = codes "-"
bytes_text (c ∷ cs) = flat_map cell_text (c ∷ cs)

-- the cells from a place on, as far as there are cells
abbrev pub part_of : List Cell → ℕ → ℕ → List Cell
part_of cells place width = take width (drop place cells)
