-- The worked examples of putting.
use Rattle.std.specs.Prelude.{◌≡◌, ℕ, List, [], ◌∷◌, length, Some, None, Option, codes}
use Prim.Native.String.{String}
use Rattle.told.specs.Answers.{Answer, given, refused, bare}
use Rattle.cells.specs.declared.cell.Cell.{Cell}
use Rattle.cells.specs.Captured.{opened}
use Rattle.sheet.specs.Sheets.{read_of}
use Rattle.meaning.specs.Terms.{PieceSpec}
use Rattle.meaning.specs.Matcher.{Laid, accepted}
use Rattle.meaning.specs.Matcher
use Rattle.reading.specs.Outcomes.{meant, put_of, put_leaves}
use Rattle.worked.specs.Sheets.{sheet, cells_in, laying, points}

-- the cells of a capture
abbrev pub message : String → List Cell
message capture = cells_in (opened (codes capture))

-- what a put is told after a laying, with so many pieces laid, and the cells that it leaves
abbrev told_after : List String → String → Option ℕ → List PieceSpec → String → List ℕ → Answer Unit
told_after rows capture laid T path bytes =
    put_of (sheet rows) (read_of (sheet rows) 256).rows (message capture) laid T (codes path) bytes

abbrev pub Put : Type 0
Put = Answer Unit × List Cell

abbrev after : List String → String → Option ℕ → List PieceSpec → String → List ℕ → Put
after rows capture laid T path bytes =
    let told = told_after rows capture laid T path bytes in
    (told, put_leaves (meant laid T (codes path)) told (message capture) bytes)

-- the same after a laying of the capture by the sheet
abbrev after_laying : List String → String → Laid → String → List ℕ → Put
after_laying rows capture (accepted T) path bytes =
    after rows capture (Some (length T)) T path bytes
after_laying rows capture (Matcher.refused e r A) path bytes = after rows capture None A path bytes

abbrev pub putting : List String → String → String → List ℕ → Put
putting rows capture path bytes = after_laying rows capture (laying rows capture 512) path bytes

-- the same count, or another second point, is put; another count makes no reading, no byte is too
-- few, and an array is no piece: then no cell changes
abbrev pub PutsToPoints : Type 0
PutsToPoints =
    (putting points "02ffec000a7f" "root.n" (2 ∷ []) ≡ (given tt, message "02ffec000a7f"))
    × (putting points "02ffec000a7f" "root.pts[1]" (255 ∷ 255 ∷ [])
    ≡ (given tt, message "02ffecffff7f"))
    × (putting points "02ffec000a7f" "root.n" (1 ∷ [])
    ≡ (refused (bare 24), message "02ffec000a7f"))
    × (putting points "02ffec000a7f" "root.n" [] ≡ (refused (bare 23), message "02ffec000a7f"))
    × (putting points "02ffec000a7f" "root.pts" (1 ∷ [])
    ≡ (refused (bare 22), message "02ffec000a7f"))
