-- What the proofs of the cycle cite: a row's value by its word, and the piece that steps lead to.
use Rattle.std.proofs.Common.{◌≡◌, ℕ, ◌+◌, ◌-◌, ◌*◌, ◌<◌, ◌≤◌, List, ◌++◌, length, Some, None, Ok}
use Rattle.std.proofs.Common.{Err, Option, sym, ap, ◌∙◌, subst, arith}
use Rattle.list.specs.declared.BoundedList.{BoundedList}
use Rattle.list.specs.Contents.{contents}
use Rattle.path.specs.declared.Path.{Path}
use Rattle.path.specs.declared.Piece.{Piece}
use Rattle.path.specs.Meaning.{Downward, path_of}
use Rattle.std.specs.List.{slice_get}
use Rattle.sheet.specs.Checks.{target, row_at}
use Rattle.sheet_text.specs.Columns.{number_in}
use Rattle.sheet.specs.Rules.{rule_of}
use Rattle.sheet.specs.Sheets.{rows_of, text_of}
use Rattle.sheet.specs.declared.checked.CheckedSheet.{CheckedSheet}
use Rattle.sheet.specs.declared.rule.Family.{Family}
use Rattle.sheet.specs.declared.rule.Family.TheVariants as family
use Rattle.sheet_text.specs.declared.row.Row.{Row}
use Rattle.sheet_text.specs.declared.word.Word.TheVariants as word
use Rattle.meaning.specs.Terms.{pieces_of}
use Rattle.meaning.specs.Forward.{Leads, LeadsOn}
use Rattle.meaning.specs.Stands.{from_by, steps_at}
use Rattle.meaning.specs.Values.{Outcome, Message, unknown, known, ◌then◌, placed, located}
use Rattle.sheet.proofs.Lawful.{few_rows}
use Rattle.laws.proofs.Checked.{NoneOrLater, checked_forward, later_ref}
use Rattle.laws.proofs.Unfold.{number_unfolds, steps_unfold, steps_end, truth_unfolds}
use Rattle.opened.specs.declared.Opened.{Opened}
use Rattle.opened.specs.Opens.{records_of}
use Rattle.evaluate.specs.Reaches.{extend, reach_of, as_reach}
use Rattle.evaluate.specs.Evaluated.{number_as, steps_as, truth_as, piece_as, number_value}
use Rattle.evaluate.specs.Evaluated.{truth_value, place_value, reach_value, number_of_row}
use Rattle.evaluate.specs.Evaluated.{truth_of_row, reach_of_row}
use Rattle.evaluate.proofs.Measures.{from}
use Rattle.evaluate.proofs.Reached.{Reached, reached, path_short, path_fits, AllFit}
use Rattle.evaluate.proofs.Finding.{nowhere}

-- a row of a checked sheet keeps its rule
pub row_proper : (s : CheckedSheet) (row : ℕ) (r : Row) → r ≡ row_at (rows_of s) row
    → LeadsOn (rows_of s) row r
row_proper s row r e = subst (LeadsOn (rows_of s) row) (sym e)
    (checked_forward (text_of s) (rows_of s) s.ok row)

-- a checked sheet has no more rows
pub few : (s : CheckedSheet) → length (rows_of s) ≤ 256
few s = few_rows (text_of s) (rows_of s) s.ok

-- the steps behind a row fall
pub from_falls : (rows : List Row) (row : ℕ) (f : Family) (o : Option ℕ) → length rows ≤ 256
    → NoneOrLater rows row f o → from 256 o < 3 * (256 - row) + 1
from_falls rows row f None few h = omega arith
from_falls rows row f (Some j) few h = omega (arith, h.later, h.exists)

-- the steps of a `from` row lead behind it
pub from_ahead : (s : CheckedSheet) (row : ℕ) (r : Row) → r ≡ row_at (rows_of s) row
    → r.word ≡ word.From
    → from 256 (number_in r.two) < 3 * (256 - row) + 1
from_ahead s row r e w =
    from_falls (rows_of s) row family.Step (number_in r.two) (few s)
    (later_ref (rows_of s) row family.Step r.two
    (subst (λ v. Leads (rows_of s) row (rule_of v).two r.two) w (row_proper s row r e).two))

module _ (m : Message) (s : CheckedSheet) (l : BoundedList Piece) (o : Opened) where
  pub number_at_lem : (row : ℕ) (r : Row) → r ≡ row_at (rows_of s) row
      → number_of_row m s l o r ≡ number_value m s l o row
  number_at_lem row r e =
      ap (number_of_row m s l o) e
      ∙ sym (ap (number_as m s l o)
      (number_unfolds (text_of s) (rows_of s) (checked_forward (text_of s) (rows_of s) s.ok)
      row))

  pub truth_at_lem : (row : ℕ) (r : Row) → r ≡ row_at (rows_of s) row
      → truth_of_row m s l o r ≡ truth_value m s l o row
  truth_at_lem row r e =
      ap (truth_of_row m s l o) e
      ∙ sym (ap (truth_as m s l o)
      (truth_unfolds (text_of s) (rows_of s) (checked_forward (text_of s) (rows_of s) s.ok)
      row))

  pub reach_at : (row : ℕ) (r : Row) (P : Option (List Downward)) → r ≡ row_at (rows_of s) row
      → reach_of_row m s l o r P ≡ reach_value m s l o (Some row) P
  reach_at row r P e =
      ap (λ x. reach_of_row m s l o x P) e
      ∙ sym (ap (λ x. steps_as m s l o x then λ q. Ok (extend P q))
      (steps_unfold (text_of s) (rows_of s) (checked_forward (text_of s) (rows_of s) s.ok) row))

  pub reach_end : (P : Option (List Downward)) → reach_value m s l o None P ≡ Ok P
  reach_end P = ap (λ x. steps_as m s l o x then λ q. Ok (extend P q))
      (steps_end (text_of s) (rows_of s) (checked_forward (text_of s) (rows_of s) s.ok))

  pub place_at : (row : ℕ) (r : Row) → r ≡ row_at (rows_of s) row → r.word ≡ word.From
      → place_value m s l o row ≡ located (pieces_of (contents l)) (records_of o) (target r.one)
      (steps_as m s l o (steps_at (text_of s) (rows_of s) (number_in r.two)))
  place_at row r e w =
      let S = steps_at (text_of s) (rows_of s) in
      ap (λ (x : Row). from_by x.word x S (piece_as m s l o) unknown) (sym e)
      ∙ ap (λ v. from_by v r S (piece_as m s l o) unknown) w

module _ (ps : List Piece) (O : List (List Downward)) (k : ℕ) (start : Path)
    (at : Some (path_of start) ≡ slice_get O k) where
  located_at : (q : Outcome (List Downward))
      → located (pieces_of ps) O k q ≡ (q then λ x. placed (pieces_of ps) (path_of start ++ x))
  located_at q =
      ap (λ (z : Option (List Downward)). known z then λ P. q then λ x.
      placed (pieces_of ps) (P ++ x)) (sym at)

  place_of : (x : List Downward) (r : Option (List Downward)) → Reached (path_of start ++ x) r
      → (path : Path) → r ≡ Some (path_of path)
      → placed (pieces_of ps) (path_of start ++ x) ≡ placed (pieces_of ps) (path_of path)
  place_of x (Some y) h path e = let s : y ≡ path_of path = cc in
      ap (placed (pieces_of ps)) (sym h ∙ s)
  place_of x None h path e = absurd (let z : ◌≡◌ {A = ℕ} 0 1 = cc in omega arith)

  no_place : (x : List Downward) (r : Option (List Downward)) → Reached (path_of start ++ x) r
      → r ≡ None → placed (pieces_of ps) (path_of start ++ x) ≡ unknown
  no_place x (Some y) h e = absurd (let z : ◌≡◌ {A = ℕ} 0 1 = cc in omega arith)
  no_place x None h e =
      nowhere ps (path_of start ++ x)
      (λ p same. h (subst AllFit same (path_fits p.path))
      (subst (λ w. length w ≤ 8) same (path_short p.path)))

  -- the piece that steps lead to
  pub arrived : (q : Outcome (List Downward)) (path : Path)
      → as_reach (Ok (Some path)) ≡ (q then λ x. Ok (extend (Some (path_of start)) x))
      → located (pieces_of ps) O k q ≡ placed (pieces_of ps) (path_of path)
  arrived (Ok x) path e =
      let s : extend (Some (path_of start)) x ≡ Some (path_of path) = cc in
      located_at (Ok x) ∙ place_of x (extend (Some (path_of start)) x)
      (reached (path_of start) x (path_short start)) path s
  arrived (Err f) path e = absurd (let z : ◌≡◌ {A = ℕ} 0 1 = cc in omega arith)

  pub lost_way : (q : Outcome (List Downward))
      → as_reach (Ok None) ≡ (q then λ x. Ok (extend (Some (path_of start)) x))
      → located (pieces_of ps) O k q ≡ unknown
  lost_way (Ok x) e =
      let s : extend (Some (path_of start)) x ≡ None = cc in
      located_at (Ok x) ∙ no_place x (extend (Some (path_of start)) x)
      (reached (path_of start) x (path_short start)) s
  lost_way (Err f) e = absurd (let z : ◌≡◌ {A = ℕ} 0 1 = cc in omega arith)

-- a `from` row whose climb and steps are worked out
module _ (m : Message) (s : CheckedSheet) (l : BoundedList Piece) (o : Opened) (row : ℕ) (r : Row)
    (here : r ≡ row_at (rows_of s) row) (is : r.word ≡ word.From)
    (k : ℕ) (climb : k ≡ target r.one) (first : Option ℕ) (steps : first ≡ number_in r.two)
    (start : Path) (at : Some (path_of start) ≡ slice_get (records_of o) k)
    (reach : Option Path) (way : as_reach (Ok reach)
    ≡ reach_value m s l o first (reach_of (Some start))) where
  place_is : place_value m s l o row
      ≡ located (pieces_of (contents l)) (records_of o) k
      (steps_as m s l o (steps_at (text_of s) (rows_of s) first))
  place_is =
      place_at m s l o row r here is
      ∙ ap (λ c. located (pieces_of (contents l)) (records_of o) c
      (steps_as m s l o (steps_at (text_of s) (rows_of s) (number_in r.two)))) (sym climb)
      ∙ ap (λ f. located (pieces_of (contents l)) (records_of o) k
      (steps_as m s l o (steps_at (text_of s) (rows_of s) f))) (sym steps)

  pub place_some : (path : Path) → reach ≡ Some path
      → place_value m s l o row ≡ placed (pieces_of (contents l)) (path_of path)
  place_some path e = place_is ∙ arrived (contents l) (records_of o) k start at _ path
      (sym (ap (λ x. as_reach (Ok x)) e) ∙ way)

  pub place_none : reach ≡ None → place_value m s l o row ≡ unknown
  place_none e = place_is ∙ lost_way (contents l) (records_of o) k start at _
      (sym (ap (λ x. as_reach (Ok x)) e) ∙ way)
