-- Parts of the cells, and lines of pieces.
use Rattle.std.proofs.Common.{◌≡◌, ℕ, ◌+◌, ◌-◌, ◌*◌, ◌<◌, ◌≤◌, List, [], ◌∷◌, ◌++◌, map, length}
use Rattle.std.proofs.Common.{get_or, take, drop, decimal, sym, refl, ap, ◌∙◌, append-nil, arith}
use Rattle.std.proofs.Common.{length-append}
use Rattle.std.specs.List.{flat_map, slice_get}
use Rattle.std.proofs.lemmas.List.{flat_map_more, length-drop, get_or-drop, map-append, map_more}
use Rattle.std.proofs.lemmas.List.{length-take-le, take_more}
use Rattle.std.proofs.lemmas.Grind.{flat_map-append}
use Rattle.std.proofs.lemmas.Option.{slice_get-get_or}
use Rattle.cells.specs.Cells.{read_at, answered, cell_read}
use Rattle.cells.specs.declared.cell.Cell.{Cell}
use Rattle.cells.specs.declared.cell.Cell.TheVariants.{Byte, Lost}
use Rattle.path.specs.declared.Piece.{Piece}
use Rattle.meaning.specs.Terms.{PieceSpec, piece_of, pieces_of}
use Rattle.listing.specs.Lines.{ended, whole_text}
use Rattle.listing.specs.Rows.{behind_comma}
use Rattle.listing.specs.Said.{numbers_text}
use Rattle.listing.specs.Parts.{cell_text, answer_text, bytes_text, part_of}
use Rattle.line.proofs.Pieces.{part_more}

abbrev blank : Cell
blank = Byte 0

answer_cell : (c : Cell) → answer_text (cell_read c) ≡ cell_text c
answer_cell (Byte b) = refl
answer_cell (Lost m) = refl

answer_at : (cs : List Cell) (k : ℕ) → k < length cs
    → answer_text (read_at cs k) ≡ cell_text (get_or cs k blank)
answer_at cs k h = ap (λ o. answer_text (answered k o)) (slice_get-get_or cs k blank h)
    ∙ answer_cell (get_or cs k blank)

-- one cell more of a part that begins at p
pub cell_more : (cs : List Cell) (p k : ℕ) → p ≤ k → k < length cs
    → flat_map cell_text (take (k - p) (drop p cs)) ++ answer_text (read_at cs k)
    ≡ flat_map cell_text (take (k + 1 - p) (drop p cs))
cell_more cs p k a h =
    let i = k - p in
    let e : p + i ≡ k = omega arith in
    let f : i + 1 ≡ k + 1 - p = omega arith in
    let more = part_more cell_text (drop p cs) i blank (omega (arith, length-drop p cs)) in
    let at = get_or-drop p cs i blank ∙ ap (λ j. get_or cs j blank) e in
    rw (answer_at cs k h, ← at, ← f) more

two : (c : Cell) → length (cell_text c) ≡ 2
two (Byte b) = refl
two (Lost m) = refl

pub length_cells : (cs : List Cell) → length (flat_map cell_text cs) ≡ 2 * length cs
length_cells [] = refl
length_cells (c ∷ cs) = omega (arith, two c, length_cells cs, length-append {A = ℕ})

printed : (cs : List Cell) → 0 < length cs → bytes_text cs ≡ flat_map cell_text cs
printed [] h = absurd (omega arith)
printed (c ∷ cs) h = refl

dash : (cs : List Cell) → length cs ≡ 0 → bytes_text cs ≡ bytes_text []
dash [] h = refl
dash (c ∷ cs) h = absurd (omega arith)

-- how long a part is in print that ends at e, behind its place p
module _ (cs : List Cell) (p w e : ℕ) (within : e ≤ length cs)
    (part : take (e - p) (drop p cs) ≡ part_of cs p w) where
  part_length : length (part_of cs p w) ≡ e - p
  part_length =
      let l = length-drop p cs in
      ap length (sym part) ∙ length-take-le (e - p) (drop p cs) (omega arith)

  pub some_size : p < e → length (bytes_text (part_of cs p w)) ≡ 2 * (e - p)
  some_size h =
      ap length (printed (part_of cs p w) (omega (arith, part_length)))
      ∙ length_cells (part_of cs p w) ∙ ap (λ n. 2 * n) part_length

  pub none_size : e ≤ p → length (bytes_text (part_of cs p w)) ≡ 1
  none_size h = ap length (dash (part_of cs p w) (part_length ∙ omega arith))

-- one line more, each of a piece
pub piece_more : (line : PieceSpec → List ℕ) (ps : List Piece) (i : ℕ) (p : Piece) → i < length ps
    → p ≡ get_or ps i p
    → whole_text (map line (pieces_of (take i ps))) ++ ended (line (piece_of p))
    ≡ whole_text (map line (pieces_of (take (i + 1) ps)))
piece_more line ps i p h e =
    let front = pieces_of (take i ps) in
    let x = piece_of (get_or ps i p) in
    ap (λ q. whole_text (map line front) ++ ended (line (piece_of q))) e
    ∙ flat_map_more ended [] (map line front) (line x)
    ∙ ap whole_text
    (sym (ap (map line) (map_more piece_of ps i p h) ∙ map-append line front (x ∷ [])))

-- a last line behind others
pub line_last : (first : List ℕ) (xs : List (List ℕ)) (x : List ℕ)
    → ended first ++ (whole_text xs ++ ended x) ≡ whole_text (first ∷ (xs ++ (x ∷ [])))
line_last first xs x = ap (λ t. ended first ++ t)
    (ap (λ t. whole_text xs ++ t) (sym (append-nil (ended x)))
    ∙ sym (flat_map-append ended xs (x ∷ [])))

-- one number more behind a word
pub numbers_more : (word ns : List ℕ) (i : ℕ) → i < length ns
    → numbers_text word (take i ns) ++ behind_comma (decimal (get_or ns i 0))
    ≡ numbers_text word (take (i + 1) ns)
numbers_more word ns i h = flat_map_more (λ n. behind_comma (decimal n)) word (take i ns)
    (get_or ns i 0) ∙ ap (numbers_text word) (sym (take_more ns i 0 h))
