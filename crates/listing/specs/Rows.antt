-- The lines of a listing, value by value.
use Rattle.std.specs.Prelude.{ℕ, ◌-◌, List, ◌∷◌, ◌++◌, length, Some, None, codes, decimal, Option}
use Rattle.cells.specs.declared.cell.Cell.{Cell}
use Rattle.told.specs.declared.Told.{Told}
use Rattle.sheet_text.specs.Table.{spelling}
use Rattle.sheet_text.specs.declared.row.Row.{Row}
use Rattle.sheet_text.specs.declared.word.Word.{Word}
use Rattle.sheet.specs.Verdict.{word_if}
use Rattle.path.specs.Printed.{printed}
use Rattle.meaning.specs.Terms.{PieceSpec}
use Rattle.listing.specs.Parts.{bytes_text, part_of}

-- a value behind a comma
abbrev pub behind_comma : List ℕ → List ℕ
behind_comma bs = 44 ∷ bs

-- what follows the first value of a row: word, place, width and bytes
abbrev pub tail_text : List Cell → List ℕ → ℕ → ℕ → List ℕ
tail_text cells word place width =
    behind_comma word ++ (behind_comma (decimal place) ++ (behind_comma (decimal width) ++ behind_comma (bytes_text (part_of cells place width))))

-- the word of a row, or a dash where there is none
abbrev pub word_text : Option Word → List ℕ
word_text None = codes "-"
word_text (Some w) = spelling w

-- a piece: its path in print, the word of its row, its place, its width and its cells
abbrev pub piece_text : List Row → List Cell → PieceSpec → List ℕ
piece_text rows cells p = printed p.path ++ tail_text cells (word_text (word_if rows p.row)) p.place p.width

-- what the cells have behind the covered ones
abbrev pub rest_text : List Cell → ℕ → List ℕ
rest_text cells covered = codes "rest" ++ tail_text cells (codes "-") covered (length cells - covered)

-- a value of a refusal, or a dash for one that it lacks
abbrev pub value_text : Option ℕ → List ℕ
value_text None = codes "-"
value_text (Some n) = decimal n

abbrev pub told_text : Told → List ℕ
told_text t =
    decimal t.number
    ++ (behind_comma (value_text t.line) ++ (behind_comma (value_text t.row) ++ (behind_comma (value_text t.place)
    ++ (behind_comma (value_text t.pieces) ++ (behind_comma (value_text t.lost) ++ behind_comma (value_text t.layers))))))
