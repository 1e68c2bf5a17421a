-- How long the lines of a listing are.
use Rattle.std.proofs.Common.{◌≡◌, ℕ, ◌+◌, ◌-◌, ◌*◌, ◌^◌, ◌<◌, ◌≤◌, List, [], ◌∷◌, length, drop, Some, None, codes, decimal, Option, arith, length-append, length-take}
use Rattle.std.proofs.lemmas.Fmt.{length-decimal-le}
use Rattle.told.specs.declared.Told.{Told}
use Rattle.cells.specs.declared.cell.Cell.{Cell}
use Rattle.sheet_text.specs.declared.row.Row.{Row}
use Rattle.sheet_text.specs.declared.word.Word.{Word}
use Rattle.sheet_text.proofs.Spelled.{spelling_short}
use Rattle.sheet.specs.Verdict.{word_if}
use Rattle.path.specs.declared.Piece.{Piece}
use Rattle.path.specs.Meaning.{path_of}
use Rattle.path.specs.Printed.{printed}
use Rattle.path.proofs.Prints.{path_short}
use Rattle.meaning.specs.Terms.{piece_of}
use Rattle.listing.specs.Parts.{bytes_text, part_of}
use Rattle.listing.specs.Rows.{piece_text, rest_text, tail_text, told_text, word_text}
use Rattle.listing.specs.Lines.{fault_header, fault, ended, lines_of, whole_text}
use Rattle.listing.proofs.Shares.{length_cells}

pub few : (n : ℕ) → n < 2 ^ 64 → length (decimal n) ≤ 20
few n h = length-decimal-le 20 n (omega arith) (omega arith) h

bytes_long : (cs : List Cell) → length (bytes_text cs) ≤ 2 * length cs + 1
bytes_long [] = omega arith
bytes_long (c ∷ cs) = omega (arith, length_cells (c ∷ cs))

part_long : (cs : List Cell) (p w : ℕ) → length (bytes_text (part_of cs p w)) ≤ 2 * w + 1
part_long cs p w = omega (arith, bytes_long (part_of cs p w), length-take w (drop p cs))

tail_long : (cs : List Cell) (word : List ℕ) (p w : ℕ) → p < 2 ^ 64 → w < 2 ^ 64 → length (tail_text cs word p w) ≤ length word + 2 * w + 45
tail_long cs word p w h l = simp length-append (omega (arith, part_long cs p w, few p h, few w l))

pub rest_long : (cs : List Cell) (k : ℕ) → k < 2 ^ 64 → length cs < 2 ^ 64 → length (rest_text cs k) ≤ 2 * (length cs - k) + 50
rest_long cs k h l = let w = length cs - k in omega (arith, tail_long cs (codes "-") k w h (omega arith), length-append (codes "rest") (tail_text cs (codes "-") k w))

word_short : (o : Option Word) → length (word_text o) ≤ 6
word_short None = omega arith
word_short (Some w) = spelling_short w

-- the lines of pieces
pub piece_long : (rows : List Row) (cs : List Cell) (p : Piece) → p.place < 2 ^ 64 → p.width < 2 ^ 64 → length (ended (piece_text rows cs (piece_of p))) ≤ 192 + 2 * p.width
piece_long rows cs p h l =
    let word = word_text (word_if rows p.row) in
    omega (
      arith,
      path_short p.path,
      tail_long cs word p.place p.width h l,
      word_short (word_if rows p.row),
      length-append (printed (path_of p.path)) (tail_text cs word p.place p.width),
      length-append (piece_text rows cs (piece_of p)) (10 ∷ []),
    )

pub two_long : (a b : List ℕ) → length (whole_text (a ∷ (b ∷ []))) ≡ length a + length b + 2
two_long a b = omega (arith, length-append {A = ℕ})

-- the lines of a refusal
pub refusal_long : (t : Told) → length (told_text t) ≤ 146 → length (whole_text (lines_of (fault t))) ≤ 200
refusal_long t h = omega (arith, two_long fault_header (told_text t))
