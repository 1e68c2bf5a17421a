-- What the cells of a piece write.
use Rattle.std.specs.Prelude.{Bool, List, Ok}
use Rattle.cells.specs.declared.cell.Cell.{Cell}
use Rattle.path.specs.declared.Piece.{Piece}
use Rattle.meaning.specs.Terms.{Number, piece_of}
use Rattle.meaning.specs.Values.{Outcome, ◌then◌, content, limited, is_true}

-- as a number, up to the limit
abbrev pub value_of : List Cell → Piece → Outcome Number
value_of cells p = content cells (piece_of p) then limited

-- as a truth
abbrev pub truth_of : List Cell → Piece → Outcome Bool
truth_of cells p = content cells (piece_of p) then λ n. Ok (is_true n)
