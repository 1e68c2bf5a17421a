-- The listing of a message that was laid is no longer than its buffer.
use Rattle.std.proofs.Common.{◌≡◌, ℕ, ◌+◌, ◌*◌, ◌^◌, ◌<◌, ◌≤◌, List, [], ◌∷◌, ◌++◌, map}
use Rattle.std.proofs.Common.{length, ap, arith, length-append}
use Rattle.std.specs.List.{AllByRecursion}
use Rattle.cells.specs.declared.cell.Cell.{Cell}
use Rattle.sheet_text.specs.declared.row.Row.{Row}
use Rattle.path.specs.declared.Piece.{Piece}
use Rattle.meaning.specs.Terms.{Path, PieceSpec, Ty, Fields, piece_of, pieces_of, total}
use Rattle.meaning.specs.Values.{over}
use Rattle.meaning.specs.Layouts.{Layout, LayFields, LayElements}
use Rattle.meaning.specs.Layouts.{base', rec', arr', alt', none', fld', done', elem'}
use Rattle.meaning.specs.Readings.{Reads}
use Rattle.laws.proofs.Prefix.{covered_cells_decide}
use Rattle.listing.specs.Lines.{ended, laid, laid_header, lines_of, whole_text}
use Rattle.listing.specs.Rows.{piece_text, rest_text}
use Rattle.listing.proofs.Lengths.{piece_long, rest_long}
use Rattle.listing.proofs.Shares.{line_last}

-- a piece ends within so many cells
abbrev pub Within : ℕ → PieceSpec → Type 0
Within n p = p.place + p.width ≤ n

all_append : (n : ℕ) (T U : List PieceSpec) → AllByRecursion (Within n) T
    → AllByRecursion (Within n) U → AllByRecursion (Within n) (T ++ U)
all_append n [] U h k = k
all_append n (p ∷ T) U h k = (h.0, all_append n T U h.1 k)

module _ (rows : List Row) (cells : List Cell) where
  mutual
    pub layout_ends : {τ : Ty} {P : Path} {O : List Path} {A T : List PieceSpec}
        → Layout (over rows cells) τ P O A T → AllByRecursion (Within (length cells)) T
    layout_ends (base' h) = (h, tt)
    layout_ends (rec' l) = fields_end l
    layout_ends (arr' v h l) = elements_end l
    layout_ends (alt' v l) = layout_ends l

    fields_end : {fs : Fields} {P : Path} {O : List Path} {A T : List PieceSpec}
        → LayFields (over rows cells) fs P O A T → AllByRecursion (Within (length cells)) T
    fields_end none' = tt
    fields_end (fld' {T = T} {U = U} a b) =
        all_append (length cells) T U (layout_ends a) (fields_end b)

    elements_end : {τ : Ty} {P : Path} {O : List Path} {i k : ℕ} {A T : List PieceSpec}
        → LayElements (over rows cells) τ P O i k A T → AllByRecursion (Within (length cells)) T
    elements_end done' = tt
    elements_end (elem' {T = T} {U = U} a b) =
        all_append (length cells) T U (layout_ends a) (elements_end b)

pieces_long : (rows : List Row) (cs : List Cell) (ps : List Piece) → length cs < 2 ^ 64
    → AllByRecursion (Within (length cs)) (pieces_of ps)
    → length (whole_text (map (piece_text rows cs) (pieces_of ps))) ≤ 192 * length ps + 2 * total
    (pieces_of ps)
pieces_long rows cs [] h w = omega arith
pieces_long rows cs (p ∷ ps) h w =
    let one : p.place + p.width ≤ length cs = w.0 in
    omega (
      arith,
      piece_long rows cs p (omega arith) (omega arith),
      pieces_long rows cs ps h w.1,
      length-append (ended (piece_text rows cs (piece_of p)))
          (whole_text (map (piece_text rows cs) (pieces_of ps))),
    )

-- the lines of a reading by pieces of a list
pub laid_long : (text : List ℕ) (rows : List Row) (cs : List Cell) (ps : List Piece) (w : ℕ)
    → Reads text rows cs (pieces_of ps) → w ≡ total (pieces_of ps)
    → length ps ≤ 512 → length cs ≤ 30000
    → length (whole_text (lines_of (laid rows cs (pieces_of ps) w))) ≤ 262144
laid_long text rows cs ps w r e few-pieces few-cells =
    let lines = map (piece_text rows cs) (pieces_of ps) in
    let rest = rest_text cs w in
    let whole = ap length (line_last laid_header lines rest) in
    let within = (covered_cells_decide text rows cs [] (pieces_of ps) r).0 in
    omega (
      arith,
      whole,
      within,
      pieces_long rows cs ps (omega arith) (layout_ends rows cs r),
      rest_long cs w (omega arith) (omega arith),
      length-append (ended laid_header) (whole_text lines ++ ended rest),
      length-append (whole_text lines) (ended rest),
      length-append rest (10 ∷ []),
    )
