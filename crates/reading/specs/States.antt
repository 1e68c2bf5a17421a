-- What the calls work on, and what is kept between them.
use Rattle.std.specs.Prelude.{ℕ, List, take, Some, None, Option, IsSome}
use Rattle.std.specs.Option.{unwrap_or}
use Rattle.std.specs.Str.{bytes_eq}
use Rattle.told.specs.declared.Told.{Told}
use Rattle.told.specs.Answers.{bare}
use Rattle.cells.specs.declared.cell.Cell.{Cell}
use Rattle.list.specs.Contents.{last_of}
use Rattle.path.specs.Printed.{printed}
use Rattle.path.specs.declared.Piece.{Piece}
use Rattle.sheet_text.specs.declared.row.Row.{Row}
use Rattle.meaning.specs.Terms.{PieceSpec, pieces_of}
use Rattle.meaning.specs.Readings.{Reads}

-- the cells of the store, all entries of the piece list, and how many are laid, if a sheet is
pub record State : Type 0 where
  pub cells : List Cell
  pub entries : List PieceSpec
  pub laid : Option ℕ

abbrev pub state_of : List Cell → List Piece → Option ℕ → State
state_of cells ps laid = record { cells = cells; entries = pieces_of ps; laid = laid }

-- the kept pieces: the first entries, as many as were laid and there are
abbrev pub kept : Option ℕ → List PieceSpec → List PieceSpec
kept laid T = take (unwrap_or laid 0) T

-- if a sheet is laid, the kept pieces are the reading of the cells
abbrev pub Settled : List ℕ → List Row → State → Type 0
Settled text rows s = IsSome s.laid → Reads text rows s.cells (kept s.laid s.entries)

-- the piece with a path in print, the last if there are several
abbrev pub named : List PieceSpec → List ℕ → Option PieceSpec
named T path = last_of (λ p. bytes_eq (printed p.path) path) T

-- what is told where no kept piece has a path: 21 if nothing is laid, else 22
abbrev pub absent : Option ℕ → Told
absent None = bare 21
absent (Some n) = bare 22
