-- What a turn of the loop over the lines keeps.
use Rattle.std.proofs.Common.{◌≡◌, ℕ, zero, suc, ◌+◌, ◌-◌, ◌<◌, ◌≤◌, min, cond, List, [], ◌∷◌, ◌++◌, length, take, drop, set, Ok, Err, Result, sym, ap, ◌∙◌, append_assoc, append-nil, arith, length-set, take-append-drop, le-leb}
use borrow.Author.Tests.{lt-leb}
use Rattle.std.proofs.lemmas.List.{drop-append-le, length-take-le, take_more_set, drop-set-lt, drop-drop}
use Rattle.sheet_text.proofs.Counts.{lines_few}
use Rattle.sheet_text.specs.Rows.{row_at, refused, with_row, lines_from, laid}
use Rattle.sheet_text.specs.declared.refusal.Reason.{Reason}
use Rattle.sheet_text.specs.declared.refusal.Reason.TheVariants as reason
use Rattle.sheet_text.specs.declared.refusal.SheetRefusal.{SheetRefusal}
use Rattle.sheet_text.specs.declared.row.Row.{Row}
use Rattle.sheet_text.specs.Rows.{Stated}

pub lines_end : (room : ℕ) (text : List ℕ) (at k : ℕ) → length text ≤ at → lines_from room text at k ≡ record { rows = []; result = Ok k }
unfolding lines_from
lines_end zero text at k h = ap (λ t. cond t (record { rows = []; result = Ok k }) (refused reason.Count (k + 2))) (le-leb _ _ h)
lines_end (suc room) text at k h =
    ap (λ t. cond t (record { rows = []; result = Ok k }) (with_row k (row_at text at k) (λ next. lines_from room text next (k + 1)))) (le-leb _ _ h)

pub lines_full : (text : List ℕ) (at k : ℕ) → at < length text → lines_from 0 text at k ≡ refused reason.Count (k + 2)
unfolding lines_from
lines_full text at k h = ap (λ t. cond t (record { rows = []; result = Ok k }) (refused reason.Count (k + 2))) (lt-leb _ _ h)

pub lines_row : (room : ℕ) (text : List ℕ) (at k : ℕ) → at < length text → lines_from (suc room) text at k ≡ with_row k (row_at text at k) (λ next. lines_from room text next (k + 1))
unfolding lines_from
lines_row room text at k h =
    ap (λ t. cond t (record { rows = []; result = Ok k }) (with_row k (row_at text at k) (λ next. lines_from room text next (k + 1)))) (lt-leb _ _ h)

-- rows 0 to k - 1 of the lines from a place on are read, and the lines from `at` on state the others
pub record Going (text : List ℕ) (from : ℕ) (start table : List Row) (room at k : ℕ) : Type 0 where
  pub fits : k ≤ room
  pub long : room ≤ length table
  pub within : at ≤ length text
  pub rows : take k table ++ (lines_from (room - k) text at k).rows ≡ (lines_from room text from 0).rows
  pub result : (lines_from (room - k) text at k).result ≡ (lines_from room text from 0).result
  pub later : drop k table ≡ drop k start

module _ {text : List ℕ} {from : ℕ} {start table : List Row} {room at k : ℕ} (g : Going text from start table room at k) where
  pub closed : (x : Result ℕ SheetRefusal) → lines_from (room - k) text at k ≡ record { rows = []; result = x } → (x ≡ (lines_from room text from 0).result) × (table ≡ laid (lines_from room text from 0).rows start)
  closed x e =
      let some : (lines_from room text from 0).rows ≡ take k table = sym g.rows ∙ ap (λ d. take k table ++ d.rows) e ∙ append-nil _ in
      let count : length (take k table) ≡ k = length-take-le k table (omega (arith, g.fits, g.long)) in (
        sym (ap (λ d. d.result) e) ∙ g.result,
        sym (take-append-drop k table) ∙ ap (λ l. take k table ++ l) (g.later ∙ ap (λ n. drop n start) (sym count)) ∙ ap (λ l. laid l start) (sym some),
      )

  pub ends : length text ≤ at → (Ok k ≡ (lines_from room text from 0).result) × (table ≡ laid (lines_from room text from 0).rows start)
  ends h = closed (Ok k) (lines_end (room - k) text at k h)

  pub overflows : at < length text → k ≡ room → (Err (record { reason = reason.Count; line = k + 2 }) ≡ (lines_from room text from 0).result) × (table ≡ laid (lines_from room text from 0).rows start)
  overflows h e =
      let none : room - k ≡ 0 = omega arith in
      closed _ (ap (λ r. lines_from r text at k) none ∙ lines_full text at k h)

  module _ (more : at < length text) (space : k < room) where
    next_row : lines_from (room - k) text at k ≡ with_row k (row_at text at k) (λ next. lines_from (room - (k + 1)) text next (k + 1))
    next_row =
        let one : room - k ≡ suc (room - (k + 1)) = omega arith in
        ap (λ r. lines_from r text at k) one ∙ lines_row (room - (k + 1)) text at k more

    pub refuses : (e : Reason) → row_at text at k ≡ Err e → (Err (record { reason = e; line = k + 2 }) ≡ (lines_from room text from 0).result) × (table ≡ laid (lines_from room text from 0).rows start)
    refuses e bad = closed _ (next_row ∙ ap (λ r. with_row k r (λ next. lines_from (room - (k + 1)) text next (k + 1))) bad)

    pub goes_on : (s : Stated) → row_at text at k ≡ Ok s → s.next ≤ length text → Going text from start (set table k s.row) room s.next (k + 1)
    goes_on s good w =
        let step = next_row ∙ ap (λ r. with_row k r (λ next. lines_from (room - (k + 1)) text next (k + 1))) good in
        let inside : k < length table = omega (arith, g.long) in
        record {
          fits = omega arith;
          long = omega (arith, g.long, length-set table k s.row);
          within = w;
          rows = ap (λ l. l ++ (lines_from (room - (k + 1)) text s.next (k + 1)).rows) (take_more_set table k s.row inside)
              ∙ append_assoc (take k table) (s.row ∷ []) _
              ∙ sym (ap (λ d. take k table ++ d.rows) step) ∙ g.rows;
          result = sym (ap (λ d. d.result) step) ∙ g.result;
          later = drop-set-lt (k + 1) table k s.row (omega arith) ∙ sym (drop-drop 1 k table) ∙ ap (drop 1) g.later ∙ drop-drop 1 k start;
        }

-- the rows that are laid into the first places of a table lie in the whole of it
laid_part : (rows table : List Row) (room : ℕ) → room ≤ length table → length rows ≤ room → laid rows (take room table) ++ drop room table ≡ laid rows table
laid_part rows table room l f =
    let n = length rows in
    let long : length (take room table) ≡ room = length-take-le room table l in
    append_assoc rows (drop n (take room table)) (drop room table)
    ∙ ap (λ xs. rows ++ xs) (sym (drop-append-le n (take room table) (drop room table) (omega arith)) ∙ ap (drop n) (take-append-drop room table))

-- what is answered about the places that may be filled, in the words of the whole table
pub in_table : (text : List ℕ) (from : ℕ) (table items : List Row) (room : ℕ) (x : Result ℕ SheetRefusal) → room ≡ min (length table) 256 → (x ≡ (lines_from room text from 0).result) × (items ≡ laid (lines_from room text from 0).rows (take room table)) → (x ≡ (lines_from (min (length table) 256) text from 0).result) × (items ++ drop room table ≡ laid (lines_from (min (length table) 256) text from 0).rows table)
in_table text from table items room x e h = (
  h.0 ∙ ap (λ r. (lines_from r text from 0).result) e,
  ap (λ xs. xs ++ drop room table) h.1
      ∙ laid_part (lines_from room text from 0).rows table room (omega arith) (lines_few room text from 0)
      ∙ ap (λ r. laid (lines_from r text from 0).rows table) e,
)
