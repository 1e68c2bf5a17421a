-- A listing has at least one byte.
use Rattle.std.proofs.Common.{ℕ, ◌<◌, List, [], ◌∷◌, ◌++◌, map, length, arith, length-append}
use Rattle.cells.specs.Cells.{byte_cells}
use Rattle.told.specs.Answers.{given}
use Rattle.sheet.specs.Sheets.{read_of}
use Rattle.listing.specs.Lines.{Outcome, ended, fault, fault_header, laid, laid_header, lines_of, outcome_of, whole_text}
use Rattle.listing.specs.Rows.{piece_text, rest_text, told_text}
use Rattle.balskif.specs.Calls.{checked, listed}

first_line : (line : List ℕ) (lines : List (List ℕ)) → 0 < length (whole_text (line ∷ lines))
first_line line lines = omega (arith, length-append (ended line) (whole_text lines), length-append line (10 ∷ []))

some_lines : (o : Outcome) → 0 < length (whole_text (lines_of o))
some_lines (laid rows cells T n) = first_line laid_header (map (piece_text rows cells) T ++ rest_text cells n ∷ [])
some_lines (fault t) = first_line fault_header (told_text t ∷ [])

pub some_text : (text : List ℕ) (room : ℕ) (message : List ℕ) → 0 < length (listed text room message)
some_text text room message = some_lines (outcome_of text (read_of text 256).rows room (checked text) (given (byte_cells message)))
