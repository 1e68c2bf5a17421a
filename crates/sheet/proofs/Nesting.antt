-- The entries of the rows, from the last to the first.
use Rattle.std.proofs.Common.{◌≡◌, ℕ, zero, suc, ◌+◌, ◌-◌, ◌<◌, ◌≤◌, Bool, true, false, cond, ltb, List, [], ◌∷◌, length, get_or, drop, set, sym, ap, ◌∙◌, arith, lt-ltb}
use Rattle.std.proofs.lemmas.List.{get_or-drop, drop_all, drop-set, drop_more}
use Rattle.sheet.specs.Checks.{no_row}
use Rattle.sheet.specs.Depths.{depth_in, record_depth, Shape, plain, of_fields, of_elements, of_choices, field_of, shape_of, depth_as, row_depth, entries}
use Rattle.sheet_text.specs.declared.row.Row.{Row}
use Rattle.sheet_text.specs.declared.row.Column.{Column}
use Rattle.sheet_text.specs.declared.row.Column.TheVariants as column

pub entry_later : (ds : List ℕ) (own n : ℕ) → own < n → get_or ds n 0 ≡ depth_in own (drop (own + 1) ds) (column.Number n)
entry_later ds own n h =
    let back : own + 1 + (n - (own + 1)) ≡ n = omega arith in
    sym (ap (λ t. cond t (get_or (drop (own + 1) ds) (n - (own + 1)) 0) 0) (lt-ltb own n h) ∙ get_or-drop (own + 1) ds (n - (own + 1)) 0 ∙ ap (λ i. get_or ds i 0) back)

module _ (k m : ℕ) (ds : List ℕ) (low : (i : ℕ) → get_or ds i 0 ≤ m) where
  either : (t : Bool) (i : ℕ) → cond t (get_or ds i 0) 0 ≤ m
  either true i = low i
  either false i = omega arith

  entry_bound : (c : Column) → depth_in k ds c ≤ m
  entry_bound (column.Number n) = either (ltb k n) (n - (k + 1))
  entry_bound (column.Name s) = omega arith
  entry_bound column.Blank = omega arith

  record_bound : (c : Column) (d : ℕ) → d ≤ m → record_depth c d ≤ m + 1
  record_bound (column.Number n) d h = omega arith
  record_bound (column.Name s) d h = omega arith
  record_bound column.Blank d h = omega arith

  shape_bound : (s : Shape) (r : Row) → depth_as s k r ds ≤ m + 1
  shape_bound plain r = omega arith
  shape_bound of_fields r = record_bound r.one _ (entry_bound r.one)
  shape_bound of_elements r = let a = entry_bound r.one in omega arith
  shape_bound of_choices r = let a = entry_bound r.two in let b = entry_bound r.three in omega arith
  shape_bound field_of r = let a = entry_bound r.one in let b = entry_bound r.two in omega arith

pub entries_bound : (k : ℕ) (rs : List Row) (i : ℕ) → get_or (entries k rs) i 0 ≤ length rs
unfolding entries
entries_bound k [] i = omega arith
entries_bound k (r ∷ rs) zero =
    let h : row_depth k r (entries (k + 1) rs) ≤ length rs + 1 = shape_bound k (length rs) (entries (k + 1) rs) (entries_bound (k + 1) rs) (shape_of r.word) r in
    omega arith
entries_bound k (r ∷ rs) (suc i) = let h : get_or (entries (k + 1) rs) i 0 ≤ length rs = entries_bound (k + 1) rs i in omega arith

pub entries_none : (k : ℕ) (ds : List ℕ) (rows : List Row) → length ds ≤ k → length rows ≤ k → drop k ds ≡ entries k (drop k rows)
unfolding entries
entries_none k ds rows h l = drop_all k ds h ∙ sym (ap (entries k) (drop_all k rows l))

pub entries_more : (k : ℕ) (ds : List ℕ) (rows : List Row) (v : ℕ) → k < length ds → k < length rows → v ≡ row_depth k (get_or rows k no_row) (drop (k + 1) ds) → drop (k + 1) ds ≡ entries (k + 1) (drop (k + 1) rows) → drop k (set ds k v) ≡ entries k (drop k rows)
unfolding entries
entries_more k ds rows v h l e i =
    drop-set ds k v h
    ∙ ap (λ d. d ∷ drop (k + 1) ds) (e ∙ ap (row_depth k (get_or rows k no_row)) i)
    ∙ ap (λ l. row_depth k (get_or rows k no_row) (entries (k + 1) (drop (k + 1) rows)) ∷ l) i
    ∙ sym (ap (entries k) (drop_more rows k no_row l))
