-- What the refusals of lines say.
use Rattle.std.proofs.Common.{◌≡◌, ℕ, zero, suc, ◌+◌, ◌-◌, ◌<◌, ◌≤◌, min, Bool, true, false, cond, eqb, leb, List, [], length, take, Some, None, Ok, Err, Option, Result, sym, refl, ap, ◌∙◌, subst, inl, inr, ⊎_elim, append-nil, arith, eq-eqb, eqb-true, leb-false, leb-true}
use Rattle.std.proofs.lemmas.List.{take_all}
use Rattle.std.proofs.lemmas.Slice.Eq.{bytes_eq-Decides}
use Rattle.sheet_text.specs.Values.{Value}
use Rattle.sheet_text.specs.Values as value
use Rattle.sheet_text.specs.Lines.{Held, line_at}
use Rattle.sheet_text.specs.Table.{spelling}
use Rattle.sheet_text.specs.Rows.{is_number, word_in, row_with, row_from, row_at, header, headed, Read, refused, with_row, lines_from, further_lines, lines_of, laid}
use Rattle.sheet_text.specs.States.{SixValues, LinesTo}
use Rattle.sheet_text.specs.LineFaults.{BadLine, StopsAt, LinesRefused, ReadsLines}
use Rattle.sheet_text.specs.declared.refusal.Reason.{Reason}
use Rattle.sheet_text.specs.declared.refusal.Reason.TheVariants as reason
use Rattle.sheet_text.specs.declared.refusal.SheetRefusal.{SheetRefusal}
use Rattle.sheet_text.specs.declared.row.Row.{Row}
use Rattle.sheet_text.specs.Rows.{Stated}
use Rattle.sheet_text.specs.declared.word.Word.{Word}
use Rattle.sheet_text.proofs.Reading.{lines_end, lines_full, lines_row}
use Rattle.sheet_text.proofs.Spelled.{spelled_words}
use Rattle.sheet_text.proofs.Stated.{held_of, six_there, six_made, own_number, word_found, row_there, line_within, ahead, lines_ahead, lines_forward, past_first, head_length, every_stated, all_read}
use Rattle.std.proofs.lemmas.Bool.{both_ways, false_from_ne_true}

module _ (text : List ℕ) where
  -- one line
  no_word : (room at k : ℕ) (h : Held) (e : Reason) (o : Option Word) → k < room → line_at text at ≡ Some h → h.number ≡ value.number k → word_in h.word ≡ o → row_with h o ≡ Err e → BadLine e text room at k
  no_word room at k h e (Some w) l is own found bad = let z : ◌≡◌ {A = ℕ} 0 1 = cc in absurd (omega arith)
  no_word room at k h e None l is own found bad =
      let p = six_there text at h is in
      let same : reason.Word ≡ e = cc in
      subst (λ x. BadLine x text room at k) same (
        l,
        (
          p.0,
          (
            ap (λ x. x.number) p.1 ∙ own,
            λ w s.
                let f : None ≡ Some w = sym found ∙ ap word_in (sym (ap (λ x. x.word) p.1) ∙ s) ∙ spelled_words w in
                let z : ◌≡◌ {A = ℕ} 0 1 = cc in omega arith,
          ),
        ),
      )

  no_number : (room at k : ℕ) (h : Held) (e : Reason) (t : Bool) → k < room → line_at text at ≡ Some h → is_number k h.number ≡ t → cond t (row_with h (word_in h.word)) (Err reason.Line) ≡ Err e → BadLine e text room at k
  no_number room at k h e true l is n bad = no_word room at k h e _ l is (own_number text k h.number n) refl bad
  no_number room at k h e false l is n bad =
      let same : reason.Line ≡ e = cc in
      subst (λ x. BadLine x text room at k) same (
        l,
        λ s own.
            let f : Some h ≡ Some (held_of text at s) = sym is ∙ six_made text at s in
            let g : h ≡ held_of text at s = cc in
            both_ways _ n (ap (is_number k) (ap (λ x. x.number) g ∙ own) ∙ eq-eqb k k refl),
      )

  no_line : (room at k : ℕ) (e : Reason) (o : Option Held) → k < room → line_at text at ≡ o → row_from k o ≡ Err e → BadLine e text room at k
  no_line room at k e (Some h) l is bad = no_number room at k h e _ l is refl bad
  no_line room at k e None l is bad =
      let same : reason.Line ≡ e = cc in
      subst (λ x. BadLine x text room at k) same (
        l,
        λ s own.
            let f : None ≡ Some (held_of text at s) = sym is ∙ six_made text at s in
            let z : ◌≡◌ {A = ℕ} 0 1 = cc in omega arith,
      )

  bad_row : (room at k : ℕ) (e : Reason) → k < room → row_at text at k ≡ Err e → BadLine e text room at k
  unfolding row_at
  bad_row room at k e l bad = no_line room at k e _ l refl bad

  -- all lines, from a place on, as row k and later ones, where there is room for so many rows in all
  pub record Stops (room at k : ℕ) (rows : List Row) (e : SheetRefusal) : Type 0 where
    pub place : ℕ
    pub ahead : LinesTo text at k rows place
    pub more : place < length text
    pub bad : BadLine e.reason text room place (k + length rows)
    pub line_of : e.line ≡ k + length rows + 2

  abbrev Explained : ℕ → ℕ → ℕ → Read → Type 0
  Explained room at k read = (e : SheetRefusal) → read.result ≡ Err e → Stops room at k read.rows e

  -- the fault is in the line at hand
  stops_here : (room at k : ℕ) (r : Reason) → at < length text → BadLine r text room at k → Explained room at k (refused r (k + 2))
  stops_here room at k r l bad e h =
      let same : record { reason = r; line = k + 2 } ≡ e = cc in
      let none : k ≡ k + 0 = omega arith in
      subst (Stops room at k []) same
      (record { place = at; ahead = refl; more = l; bad = subst (BadLine r text room at) none bad; line_of = omega arith })

  with_row_lem : (room at k : ℕ) (o : Result Stated Reason) (later : ℕ → Read) → row_at text at k ≡ o → at < length text → k < room
      → ((next : ℕ) → next ≤ length text → Explained room next (k + 1) (later next))
      → Explained room at k (with_row k o later)
  with_row_lem room at k (Err r) later is l f each e h = stops_here room at k r l (bad_row room at k r f is) e h
  with_row_lem room at k (Ok s) later is l f each e h =
      let line = row_there text at k s is in
      let w = line_within text at k s.next s.row line (omega arith) in
      let g = each s.next w.1 e h in
      let n = length (later s.next).rows in
      let one : k + 1 + n ≡ k + suc n = omega arith in
      let is-line = g.line_of in
      record { place = g.place; ahead = (s.next, (line, g.ahead)); more = g.more; bad = subst (BadLine e.reason text room g.place) one g.bad; line_of = omega arith }

  no_fault : (room left at k : ℕ) → length text ≤ at → Explained room at k (lines_from left text at k)
  no_fault room left at k h = subst (Explained room at k) (sym (lines_end left text at k h)) (λ e x. let z : ◌≡◌ {A = ℕ} 0 1 = cc in absurd (omega arith))

  full : (room at k : ℕ) (t : Bool) → k ≡ room → leb (length text) at ≡ t → Explained room at k (lines_from 0 text at k)
  full room at k true f t = no_fault room 0 at k (leb-true (length text) at t)
  full room at k false f t =
      let l = leb-false (length text) at t in
      subst (Explained room at k) (sym (lines_full text at k l)) (stops_here room at k reason.Count l f)

  not_full : (room left at k : ℕ) (t : Bool) → k < room → leb (length text) at ≡ t → ((next : ℕ) → next ≤ length text → Explained room next (k + 1) (lines_from left text next (k + 1))) → Explained room at k (lines_from (suc left) text at k)
  not_full room left at k true f t each = no_fault room (suc left) at k (leb-true (length text) at t)
  not_full room left at k false f t each =
      let l = leb-false (length text) at t in
      subst (Explained room at k) (sym (lines_row left text at k l)) (with_row_lem room at k (row_at text at k) (λ next. lines_from left text next (k + 1)) refl l f each)

  explained : (left room at k : ℕ) → k + left ≡ room → Explained room at k (lines_from left text at k)
  explained zero room at k f = full room at k _ (omega arith) refl
  explained (suc left) room at k f = not_full room left at k _ (omega arith) refl (λ next w. explained left room next (k + 1) (omega arith))

  -- the whole text
  abbrev Told : ℕ → Read → Type 0
  Told places read = (e : SheetRefusal) → read.result ≡ Err e → LinesRefused text places read.rows e.reason e.line

  stops_told : (places line : ℕ) (rows : List Row) (r : Reason) → StopsAt text places rows r line → LinesRefused text places rows r line
  stops_told places line rows reason.Header s = absurd s.bad
  stops_told places line rows reason.Count s = inr s
  stops_told places line rows reason.Line s = s
  stops_told places line rows reason.Word s = s
  stops_told places line rows reason.Column s = absurd s.bad
  stops_told places line rows reason.Field s = absurd s.bad
  stops_told places line rows reason.Depth s = absurd s.bad

  head_is : headed text ≡ true → take 28 text ≡ header
  head_is h = sym ((bytes_eq-Decides header (take 28 text)).0 h)

  past_head : (places : ℕ) (t : Bool) → headed text ≡ true → eqb (length text) 28 ≡ t → Told places (cond t (refused reason.Count 1) (further_lines text places))
  past_head places true h t e is =
      let same : record { reason = reason.Count; line = 1 } ≡ e = cc in
      let short : length text ≡ 28 = eqb-true (length text) 28 t in
      let whole : text ≡ header = sym (take_all 28 text (omega arith)) ∙ head_is h in
      subst (λ x. LinesRefused text places [] x.reason x.line) same (inl (whole, refl, refl))
  past_head places false h t e is =
      let room = min places 256 in
      let g = explained room room 28 0 (omega arith) e is in
      let rows = (lines_from room text 28 0).rows in
      let none : 0 + length rows ≡ length rows = omega arith in
      let line = g.line_of in
      stops_told places e.line rows e.reason
      (record { headed = head_is h; at = g.place; ahead = g.ahead; more = g.more; bad = subst (BadLine e.reason text room g.place) none g.bad; line_of = omega arith })

  by_head : (places : ℕ) (t : Bool) → headed text ≡ t → Told places (cond t (cond (eqb (length text) 28) (refused reason.Count 1) (further_lines text places)) (refused reason.Header 1))
  by_head places true h e is = past_head places _ h refl e is
  by_head places false h e is =
      let same : record { reason = reason.Header; line = 1 } ≡ e = cc in
      subst (λ x. LinesRefused text places [] x.reason x.line) same
      (λ x. both_ways _ h ((bytes_eq-Decides header (take 28 text)).1 (sym x)), refl, refl)

  -- a refusal says what it has to
  pub lines_refused : (places : ℕ) (e : SheetRefusal) → (lines_of text places).result ≡ Err e → LinesRefused text places (lines_of text places).rows e.reason e.line
  lines_refused places e is = by_head places _ refl e is

module _ (text : List ℕ) where
  -- the way back: a line that is wrong is refused for what is wrong with it
  unnumbered : (at k : ℕ) (h : Held) (t : Bool) → ((s : SixValues text at) → s.own ≡ value.number k → ⊥) → line_at text at ≡ Some h → is_number k h.number ≡ t → cond t (row_with h (word_in h.word)) (Err reason.Line) ≡ Err reason.Line
  unnumbered at k h false never is n = refl
  unnumbered at k h true never is n =
      let p = six_there text at h is in
      absurd (never p.0 (ap (λ x. x.number) p.1 ∙ own_number text k h.number n))

  not_six : (at k : ℕ) (o : Option Held) → ((s : SixValues text at) → s.own ≡ value.number k → ⊥) → line_at text at ≡ o → row_from k o ≡ Err reason.Line
  not_six at k None never is = refl
  not_six at k (Some h) never is = unnumbered at k h _ never is refl

  not_stated : (at k : ℕ) → ((s : SixValues text at) → s.own ≡ value.number k → ⊥) → row_at text at k ≡ Err reason.Line
  unfolding row_at
  not_stated at k never = not_six at k _ never refl

  no_such_word : (v : Value) (o : Option Word) → ((w : Word) → v ≡ value.name (spelling w) → ⊥) → word_in v ≡ o → o ≡ None
  no_such_word v None never e = refl
  no_such_word v (Some w) never e = absurd (never w (word_found text v w e))

  not_word : (at k : ℕ) (s : SixValues text at) → s.own ≡ value.number k → ((w : Word) → s.word ≡ value.name (spelling w) → ⊥) → row_at text at k ≡ Err reason.Word
  unfolding row_at
  not_word at k s own never =
      let h = held_of text at s in
      ap (row_from k) (six_made text at s)
      ∙ ap (λ t. cond t (row_with h (word_in s.word)) (Err reason.Line)) (ap (is_number k) own ∙ eq-eqb k k refl)
      ∙ ap (row_with h) (no_such_word s.word (word_in s.word) never refl)

  row_stops : (r : Reason) (room at n : ℕ) → at < length text → n < room → row_at text at n ≡ Err r → lines_from (room - n) text at n ≡ refused r (n + 2)
  row_stops r room at n l f bad =
      let one : room - n ≡ suc (room - (n + 1)) = omega arith in
      ap (λ m. lines_from m text at n) one ∙ lines_row (room - (n + 1)) text at n l
      ∙ ap (λ o. with_row n o (λ next. lines_from (room - (n + 1)) text next (n + 1))) bad

  stops_so : (r : Reason) (room at n : ℕ) → at < length text → BadLine r text room at n → (n ≤ room) × (lines_from (room - n) text at n ≡ refused r (n + 2))
  stops_so reason.Header room at n l bad = absurd bad
  stops_so reason.Column room at n l bad = absurd bad
  stops_so reason.Field room at n l bad = absurd bad
  stops_so reason.Depth room at n l bad = absurd bad
  stops_so reason.Count room at n l bad =
      let none : room - n ≡ 0 = omega arith in
      (omega arith, ap (λ m. lines_from m text at n) none ∙ lines_full text at n l)
  stops_so reason.Line room at n l bad = let f = bad.0 in (omega arith, row_stops reason.Line room at n l f (not_stated at n bad.1))
  stops_so reason.Word room at n l bad =
      let f = bad.0 in
      (omega arith, row_stops reason.Word room at n l f (not_word at n bad.1.0 bad.1.1.0 bad.1.1.1))

  abbrev refusal : List Row → Reason → ℕ → Read
  refusal rows r line = record { rows = rows; result = Err (record { reason = r; line = line }) }

  stopped : (places line : ℕ) (rows : List Row) (r : Reason) → StopsAt text places rows r line → lines_of text places ≡ refusal rows r line
  stopped places line rows r h =
      let room = min places 256 in
      let n = length rows in
      let long = head_length text ((bytes_eq-Decides header (take 28 text)).1 (sym h.headed)) in
      let on = lines_forward text rows 28 0 h.at long h.ahead in
      let more = h.more in
      let g = stops_so r room h.at n more h.bad in
      let none : 0 + n ≡ n = omega arith in
      past_first text places h.headed (λ e. omega (arith, on.0))
      ∙ lines_ahead text rows room 28 0 h.at g.0 long h.ahead
      ∙ ap (λ k. ahead text rows (lines_from (room - n) text h.at k)) none
      ∙ ap (ahead text rows) g.1
      ∙ ap (λ x. refusal x r (n + 2)) (append-nil rows)
      ∙ ap (refusal rows r) (sym h.line_of)

  bare : (rows : List Row) (r : Reason) (line : ℕ) → line ≡ 1 → rows ≡ [] → refused r 1 ≡ refusal rows r line
  bare rows r line l e = ap (refusal [] r) (sym l) ∙ ap (λ x. refusal x r line) (sym e)

  -- what is said is refused so
  pub refused_so : (places line : ℕ) (rows : List Row) (r : Reason) → LinesRefused text places rows r line → lines_of text places ≡ refusal rows r line
  refused_so places line rows reason.Header h =
      ap (λ t. cond t (cond (eqb (length text) 28) (refused reason.Count 1) (further_lines text places)) (refused reason.Header 1))
      (false_from_ne_true (headed text) (λ t. h.0 (sym ((bytes_eq-Decides header (take 28 text)).0 t))))
      ∙ bare rows reason.Header line h.1 h.2
  refused_so places line rows reason.Count h =
      ⊎_elim
      (λ p.
      let whole = p.0 in
      ap (λ t. cond t (cond (eqb (length text) 28) (refused reason.Count 1) (further_lines text places)) (refused reason.Header 1)) ((bytes_eq-Decides header (take 28 text)).1 (sym (ap (take 28) whole)))
      ∙ ap (λ t. cond t (refused reason.Count 1) (further_lines text places)) (eq-eqb (length text) 28 (ap length whole))
      ∙ bare rows reason.Count line p.1 p.2)
      (λ s. stopped places line rows reason.Count s)
      h
  refused_so places line rows reason.Line h = stopped places line rows reason.Line h
  refused_so places line rows reason.Word h = stopped places line rows reason.Word h
  refused_so places line rows reason.Column h = absurd h
  refused_so places line rows reason.Field h = absurd h
  refused_so places line rows reason.Depth h = absurd h

-- the answer of a reading of lines, and what it leaves
pub reads_so : (text : List ℕ) (table left : List Row) → left ≡ laid (lines_of text (length table)).rows table → (r : Result ℕ SheetRefusal) → r ≡ (lines_of text (length table)).result → ReadsLines text table left r
reads_so text table left rows_are r e = record {
  stated = every_stated text table left rows_are r e;
  accepts = all_read text table left rows_are r e;
  refuses = λ f is. ((lines_of text (length table)).rows, (rows_are, lines_refused text (length table) f (sym e ∙ is)));
  exactly = λ rows f h.
      let is = refused_so text (length table) f.line rows f.reason h in
      (e ∙ ap (λ d. d.result) is, rows_are ∙ ap (λ d. laid d.rows table) is);
}
