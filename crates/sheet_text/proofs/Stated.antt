-- The rows that are read are those that the lines state.
use Rattle.std.proofs.Common.{◌≡◌, ℕ, zero, suc, ◌+◌, ◌-◌, ◌<◌, ◌≤◌, min, Bool, true, false, cond, eqb, leb, List, [], ◌∷◌, ◌++◌, length, get_or, take, drop, IfOk, Some, None, Ok, Err, Option, Result, sym, refl, ap, ◌∙◌, subst, append-nil, arith, length-append, length-drop, take-append-drop, length-take, eq-eqb, ne_eqb, eqb-true, leb-false, leb-true}
use borrow.Author.Tests.{eqb-false}
use Rattle.std.proofs.lemmas.List.{take_at, drop_at, drop-drop, length-take-le}
use Rattle.std.proofs.lemmas.Slice.Eq.{bytes_eq-Decides}
use Rattle.std.specs.Option.{option_map}
use Rattle.sheet_text.specs.Values.{Value, value_of}
use Rattle.sheet_text.specs.Values as value
use Rattle.sheet_text.specs.Lines.{is_stop, part_len, Placed, begins, part_by, part_at, column_from, column_of, Held, and_then, line_at}
use Rattle.sheet_text.specs.Table.{spelling, words}
use Rattle.sheet_text.specs.Rows.{is_number, word_in, row_with, row_from, row_at, header, headed, Read, refused, with_row, lines_from, further_lines, lines_of, laid}
use Rattle.sheet_text.specs.States.{ValueAt, SixValues, LineAt, LinesTo, States, Fits}
use Rattle.sheet_text.specs.declared.refusal.Reason.{Reason}
use Rattle.sheet_text.specs.declared.refusal.Reason.TheVariants as reason
use Rattle.sheet_text.specs.declared.refusal.SheetRefusal.{SheetRefusal}
use Rattle.sheet_text.specs.declared.row.Row.{Row}
use Rattle.sheet_text.specs.declared.row.Column.{Column}
use Rattle.sheet_text.specs.Rows.{Stated}
use Rattle.sheet_text.specs.declared.word.Word.{Word}
use Rattle.sheet_text.proofs.Counts.{read_counts, read_few}
use Rattle.sheet_text.proofs.Lines.{part_ended}
use Rattle.sheet_text.proofs.Reading.{lines_end, lines_full, lines_row}
use Rattle.sheet_text.proofs.Spelled.{spelled_is, spelled_words}
use Rattle.std.proofs.lemmas.Bool.{false≢true}
use Rattle.sheet_text.proofs.Written.{value_is, value_from, no_stops}

-- one value
some_mapped : {A B : Type 0} (f : A → B) (o : Option A) (y : B) → option_map f o ≡ Some y → (x : A) × ((o ≡ Some x) × (f x ≡ y))
some_mapped f None y e = let z : ◌≡◌ {A = ℕ} 0 1 = cc in absurd (omega arith)
some_mapped f (Some x) y e = (x, (refl, cc))

begins_is : (stop : ℕ) (xs : List ℕ) → begins stop xs ≡ true → (xs ≡ stop ∷ drop 1 xs) × (0 < length xs)
begins_is stop [] e = absurd (false≢true e)
begins_is stop (b ∷ bs) e = (ap (λ c. c ∷ bs) (eqb-true b stop e), omega arith)

-- a value with its place and that of the next
abbrev place : ℕ → ℕ → Value → Placed
place at next v = record { value = v; at = at; next = next }

module _ (text : List ℕ) (at stop : ℕ) where
  ended : (n : ℕ) (t : Bool) (p : Placed) → begins stop (drop n (drop at text)) ≡ t → cond t (option_map (λ v. record { value = v; at = at; next = at + n + 1 }) (value_of (take n (drop at text)))) None ≡ Some p → ValueAt text at p.value stop p.next × (p.at ≡ at)
  ended n false p b e = let z : ◌≡◌ {A = ℕ} 0 1 = cc in absurd (omega arith)
  ended n true p b e =
      let rest = drop at text in
      let m = some_mapped (λ v. record { value = v; at = at; next = at + n + 1 }) (value_of (take n rest)) p e in
      let v = m.0 in
      let is : place at (at + n + 1) v ≡ p = m.1.1 in
      let g = begins_is stop (drop n rest) b in
      let more : 0 < length (drop n rest) = g.1 in
      let long : length (take n rest) ≡ n = length-take-le n rest (omega (arith, length-drop n rest)) in
      let one : at + (n + 1) ≡ at + n + 1 = omega arith in
      let after : drop 1 (drop n rest) ≡ drop (at + n + 1) text = drop-drop 1 n rest ∙ drop-drop (n + 1) at text ∙ ap (λ k. drop k text) one in
      subst (λ q. ValueAt text at q.value stop q.next × (q.at ≡ at)) is (
        record {
          bytes = take n rest;
          writes = value_is (take n rest) v m.1.0;
          stands = sym (take-append-drop n rest) ∙ ap (λ l. take n rest ++ l) (g.0 ∙ ap (λ l. stop ∷ l) after);
          follows = ap (λ k. at + k + 1) (sym long);
        },
        refl,
      )

  pub part_there : (p : Placed) → part_at text at stop ≡ Some p → ValueAt text at p.value stop p.next × (p.at ≡ at)
  unfolding part_at
  part_there p e = ended (part_len (drop at text)) _ p refl e

  -- the way back
  part_length : (bs more : List ℕ) → is_stop stop ≡ true → ((i : ℕ) → i < length bs → is_stop (get_or bs i 0) ≡ false) → part_len (bs ++ (stop ∷ more)) ≡ length bs
  part_length [] more s h = ap (λ t. cond t 0 (suc (part_len more))) s
  part_length (b ∷ bs) more s h =
      ap (λ t. cond t 0 (suc (part_len (bs ++ (stop ∷ more))))) (h 0 (omega arith)) ∙ ap suc (part_length bs more s (λ i l. h (suc i) (omega arith)))

  pub part_made : (v : Value) (next : ℕ) → is_stop stop ≡ true → ValueAt text at v stop next → part_at text at stop ≡ Some (place at next v)
  unfolding part_at
  part_made v next s h =
      let bs = h.bytes in
      let all = bs ++ (stop ∷ drop next text) in
      let n = length bs in
      ap (λ l. part_by (part_len l) l at stop) h.stands
      ∙ ap (λ m. part_by m all at stop) (part_length bs (drop next text) s (no_stops bs v h.writes))
      ∙ part_ended n all at stop (Some v)
      (ap (begins stop) (drop_at bs (stop ∷ drop next text) n refl) ∙ eq-eqb stop stop refl)
      (ap value_of (take_at bs (stop ∷ drop next text) n refl) ∙ value_from bs v h.writes)
      ∙ ap (λ m. Some (place at m v)) (sym h.follows)

-- where a value ends
next_within : {text : List ℕ} {at stop next : ℕ} {v : Value} → ValueAt text at v stop next → at ≤ length text → (at < next) × (next ≤ length text)
next_within {text} {at} {stop} {next} h l =
    let n = length h.bytes in
    let count : length text - at ≡ n + length (stop ∷ drop next text) = sym (length-drop at text) ∙ ap length h.stands ∙ length-append h.bytes (stop ∷ drop next text) in
    let f = h.follows in
    (omega arith, omega (arith, length-drop next text))

-- one line
then_some : {A B : Type 0} (o : Option A) (f : A → Option B) (y : B) → and_then o f ≡ Some y → (x : A) × ((o ≡ Some x) × (f x ≡ Some y))
then_some None f y e = let z : ◌≡◌ {A = ℕ} 0 1 = cc in absurd (omega arith)
then_some (Some x) f y e = (x, (refl, e))

-- what is made of four columns, of equal ones
same_columns : {A : Type 0} {a b c d a' b' c' d' : Column} (f : Column → Column → Column → Column → A) → a ≡ a' → b ≡ b' → c ≡ c' → d ≡ d' → f a b c d ≡ f a' b' c' d'
same_columns {A} {a} {b} {c} {d} {a'} {b'} {c'} f p q r s = ap (λ x. f x b c d) p ∙ ap (λ x. f a' x c d) q ∙ ap (λ x. f a' b' x d) r ∙ ap (f a' b' c') s

moved : (at : ℕ) (p : Placed) → p.at ≡ at → column_from at p.value ≡ column_of p
moved at p e = ap (λ k. column_from k p.value) (sym e)

abbrev held : Placed → Placed → Placed → Placed → Placed → Placed → Held
held a b c d e f = record { number = a.value; word = b.value; name = column_of c; one = column_of d; two = column_of e; three = column_of f; next = f.next }

module _ (text : List ℕ) where
  -- the values after the first, the second and so on
  abbrev past_five : Placed → Placed → Placed → Placed → Placed → Option Held
  past_five a b c d e = and_then (part_at text e.next 10) (λ f. Some (held a b c d e f))

  abbrev past_four : Placed → Placed → Placed → Placed → Option Held
  past_four a b c d = and_then (part_at text d.next 44) (past_five a b c d)

  abbrev past_three : Placed → Placed → Placed → Option Held
  past_three a b c = and_then (part_at text c.next 44) (past_four a b c)

  abbrev past_two : Placed → Placed → Option Held
  past_two a b = and_then (part_at text b.next 44) (past_three a b)

  abbrev past_one : Placed → Option Held
  past_one a = and_then (part_at text a.next 44) (past_two a)

  -- a line as it is held, from its six values
  abbrev pub held_of : (at : ℕ) → SixValues text at → Held
  held_of at s = record {
    number = s.own;
    word = s.word;
    name = column_from s.third s.name;
    one = column_from s.fourth s.one;
    two = column_from s.fifth s.two;
    three = column_from s.sixth s.three;
    next = s.next;
  }

  pub six_there : (at : ℕ) (h : Held) → line_at text at ≡ Some h → (s : SixValues text at) × (held_of at s ≡ h)
  six_there at h e =
      let a = then_some (part_at text at 44) past_one h e in
      let b = then_some (part_at text a.0.next 44) (past_two a.0) h a.1.1 in
      let c = then_some (part_at text b.0.next 44) (past_three a.0 b.0) h b.1.1 in
      let d = then_some (part_at text c.0.next 44) (past_four a.0 b.0 c.0) h c.1.1 in
      let f = then_some (part_at text d.0.next 44) (past_five a.0 b.0 c.0 d.0) h d.1.1 in
      let g = then_some (part_at text f.0.next 10) (λ l. Some (held a.0 b.0 c.0 d.0 f.0 l)) h f.1.1 in
      let c-at = part_there text b.0.next 44 c.0 c.1.0 in
      let d-at = part_there text c.0.next 44 d.0 d.1.0 in
      let f-at = part_there text d.0.next 44 f.0 f.1.0 in
      let g-at = part_there text f.0.next 10 g.0 g.1.0 in
      let whole : held a.0 b.0 c.0 d.0 f.0 g.0 ≡ h = let x = g.1.1 in cc in
      let places = same_columns (λ x y z w. record { number = a.0.value; word = b.0.value; name = x; one = y; two = z; three = w; next = g.0.next }) (moved b.0.next c.0 c-at.1) (moved c.0.next d.0 d-at.1) (moved d.0.next f.0 f-at.1) (moved f.0.next g.0 g-at.1) in (
        record {
          second = a.0.next;
          third = b.0.next;
          fourth = c.0.next;
          fifth = d.0.next;
          sixth = f.0.next;
          next = g.0.next;
          own = a.0.value;
          word = b.0.value;
          name = c.0.value;
          one = d.0.value;
          two = f.0.value;
          three = g.0.value;
          own_at = (part_there text at 44 a.0 a.1.0).0;
          word_at = (part_there text a.0.next 44 b.0 b.1.0).0;
          name_at = c-at.0;
          one_at = d-at.0;
          two_at = f-at.0;
          three_at = g-at.0;
        },
        places ∙ whole,
      )

  -- the way back
  pub six_made : (at : ℕ) (s : SixValues text at) → line_at text at ≡ Some (held_of at s)
  six_made at s =
      let a = place at s.second s.own in
      let b = place s.second s.third s.word in
      let c = place s.third s.fourth s.name in
      let d = place s.fourth s.fifth s.one in
      let e = place s.fifth s.sixth s.two in
      ap (λ o. and_then o past_one) (part_made text at 44 _ _ refl s.own_at)
      ∙ ap (λ o. and_then o (past_two a)) (part_made text s.second 44 _ _ refl s.word_at)
      ∙ ap (λ o. and_then o (past_three a b)) (part_made text s.third 44 _ _ refl s.name_at)
      ∙ ap (λ o. and_then o (past_four a b c)) (part_made text s.fourth 44 _ _ refl s.one_at)
      ∙ ap (λ o. and_then o (past_five a b c d)) (part_made text s.fifth 44 _ _ refl s.two_at)
      ∙ ap (λ o. and_then o (λ l. Some (held a b c d e l))) (part_made text s.sixth 10 _ _ refl s.three_at)

  abbrev row_of : Held → Word → Row
  row_of h w = record { word = w; name = h.name; one = h.one; two = h.two; three = h.three }

  line_there : (at k : ℕ) (w : Word) (h : Held) → h.number ≡ value.number k → h.word ≡ value.name (spelling w) → line_at text at ≡ Some h → LineAt text at k (row_of h w) h.next
  line_there at k w h own word e =
      let p = six_there at h e in
      let is = sym p.1 in
      record {
        six = p.0;
        own = sym (ap (λ l. l.number) is) ∙ own;
        word = sym (ap (λ l. l.word) is) ∙ word;
        name = ap (λ l. l.name) is;
        one = ap (λ l. l.one) is;
        two = ap (λ l. l.two) is;
        three = ap (λ l. l.three) is;
        follows = sym (ap (λ l. l.next) is);
      }

  -- the row of a line
  pub own_number : (k : ℕ) (v : Value) → is_number k v ≡ true → v ≡ value.number k
  own_number k (value.number m) e = ap value.number (eqb-true m k e)
  own_number k (value.name bs) e = absurd (false≢true e)
  own_number k value.blank e = absurd (false≢true e)

  pub word_found : (v : Value) (w : Word) → word_in v ≡ Some w → v ≡ value.name (spelling w)
  word_found (value.name bs) w e = ap value.name (sym (spelled_is words bs w e))
  word_found (value.number n) w e = let z : ◌≡◌ {A = ℕ} 0 1 = cc in absurd (omega arith)
  word_found value.blank w e = let z : ◌≡◌ {A = ℕ} 0 1 = cc in absurd (omega arith)

  with_word : (at k : ℕ) (h : Held) (s : Stated) (o : Option Word) → line_at text at ≡ Some h → h.number ≡ value.number k → word_in h.word ≡ o → row_with h o ≡ Ok s → LineAt text at k s.row s.next
  with_word at k h s None l n w e = let z : ◌≡◌ {A = ℕ} 0 1 = cc in absurd (omega arith)
  with_word at k h s (Some v) l n w e =
      let same : record { row = row_of h v; next = h.next } ≡ s = cc in
      subst (λ t. LineAt text at k t.row t.next) same (line_there at k v h n (word_found h.word v w) l)

  with_number : (at k : ℕ) (h : Held) (s : Stated) (t : Bool) → line_at text at ≡ Some h → is_number k h.number ≡ t → cond t (row_with h (word_in h.word)) (Err reason.Line) ≡ Ok s → LineAt text at k s.row s.next
  with_number at k h s true l n e = with_word at k h s _ l (own_number k h.number n) refl e
  with_number at k h s false l n e = let z : ◌≡◌ {A = ℕ} 0 1 = cc in absurd (omega arith)

  with_line : (at k : ℕ) (s : Stated) (o : Option Held) → line_at text at ≡ o → row_from k o ≡ Ok s → LineAt text at k s.row s.next
  with_line at k s None l e = let z : ◌≡◌ {A = ℕ} 0 1 = cc in absurd (omega arith)
  with_line at k s (Some h) l e = with_number at k h s _ l refl e

  pub row_there : (at k : ℕ) (s : Stated) → row_at text at k ≡ Ok s → LineAt text at k s.row s.next
  unfolding row_at
  row_there at k s e = with_line at k s _ refl e

  row_made : (at k next : ℕ) (r : Row) → LineAt text at k r next → row_at text at k ≡ Ok (record { row = r; next = next })
  unfolding row_at
  row_made at k next r h =
      let s = h.six in
      let l = held_of at s in
      let same = same_columns (λ x y z w. record { row = record { word = r.word; name = x; one = y; two = z; three = w }; next = s.next }) (sym h.name) (sym h.one) (sym h.two) (sym h.three) ∙ ap (λ n. record { row = r; next = n }) h.follows in
      ap (row_from k) (six_made at s)
      ∙ ap (λ v. cond (is_number k v) (row_with l (word_in s.word)) (Err reason.Line)) h.own
      ∙ ap (λ t. cond t (row_with l (word_in s.word)) (Err reason.Line)) (eq-eqb k k refl)
      ∙ ap (λ v. row_with l (word_in v)) h.word ∙ ap (row_with l) (spelled_words r.word) ∙ ap Ok same

  pub line_within : (at k next : ℕ) (r : Row) → LineAt text at k r next → at ≤ length text → (at < length text) × (next ≤ length text) × (at < next)
  line_within at k next r h l =
      let s = h.six in
      let a = next_within s.own_at l in
      let b = next_within s.word_at a.1 in
      let c = next_within s.name_at b.1 in
      let d = next_within s.one_at c.1 in
      let e = next_within s.two_at d.1 in
      let f = next_within s.three_at e.1 in
      let is = h.follows in
      (omega (arith, a.0, a.1), subst (λ n. n ≤ length text) is f.1, omega (arith, a.0, b.0, c.0, d.0, e.0, f.0))

  -- all lines
  with_row_lem : (at k n : ℕ) (o : Result Stated Reason) (later : ℕ → Read) → row_at text at k ≡ o → at ≤ length text
      → ((next : ℕ) → next ≤ length text → (later next).result ≡ Ok n → LinesTo text next (k + 1) (later next).rows (length text))
      → (with_row k o later).result ≡ Ok n → LinesTo text at k (with_row k o later).rows (length text)
  with_row_lem at k n (Err e) later r l each h = let z : ◌≡◌ {A = ℕ} 0 1 = cc in absurd (omega arith)
  with_row_lem at k n (Ok s) later r l each h =
      let line = row_there at k s r in
      (s.next, (line, each s.next (line_within at k s.next s.row line l).1 h))

  abbrev Fine : ℕ → ℕ → ℕ → Read → Type 0
  Fine at k n read = read.result ≡ Ok n → LinesTo text at k read.rows (length text)

  fine_end : (room at k n : ℕ) → at ≤ length text → leb (length text) at ≡ true → Fine at k n (lines_from room text at k)
  fine_end room at k n l t =
      let past : length text ≤ at = leb-true (length text) at t in
      let same : at ≡ length text = omega arith in
      subst (Fine at k n) (sym (lines_end room text at k past)) (λ e. same)

  fine_full : (at k n : ℕ) (t : Bool) → at ≤ length text → leb (length text) at ≡ t → Fine at k n (lines_from 0 text at k)
  fine_full at k n true l t = fine_end 0 at k n l t
  fine_full at k n false l t =
      subst (Fine at k n) (sym (lines_full text at k (leb-false (length text) at t))) (λ e. let z : ◌≡◌ {A = ℕ} 0 1 = cc in absurd (omega arith))

  fine_row : (room at k n : ℕ) (t : Bool) → at ≤ length text → leb (length text) at ≡ t
      → ((next : ℕ) → next ≤ length text → Fine next (k + 1) n (lines_from room text next (k + 1)))
      → Fine at k n (lines_from (suc room) text at k)
  fine_row room at k n true l t each = fine_end (suc room) at k n l t
  fine_row room at k n false l t each =
      subst (Fine at k n) (sym (lines_row room text at k (leb-false (length text) at t))) (with_row_lem at k n (row_at text at k) (λ next. lines_from room text next (k + 1)) refl l each)

  lines_there : (room at k n : ℕ) → at ≤ length text → Fine at k n (lines_from room text at k)
  lines_there zero at k n l = fine_full at k n _ l refl
  lines_there (suc room) at k n l = fine_row room at k n _ l refl (λ next w. lines_there room next (k + 1) n w)

  -- the way back: the lines that state rows are read, and then what follows them
  abbrev pub ahead : List Row → Read → Read
  ahead rows d = record { rows = rows ++ d.rows; result = d.result }

  pub lines_ahead : (rows : List Row) (room at k further : ℕ) → length rows ≤ room → at ≤ length text → LinesTo text at k rows further → lines_from room text at k ≡ ahead rows (lines_from (room - length rows) text further (k + length rows))
  lines_ahead [] room at k further f l h =
      let none : room ≡ room - 0 = omega arith in
      let same : k ≡ k + 0 = omega arith in
      ap (λ a. lines_from room text a k) h ∙ ap (λ n. lines_from n text further k) none ∙ ap (λ n. lines_from (room - 0) text further n) same
  lines_ahead (r ∷ rs) zero at k further f l h = absurd (omega arith)
  lines_ahead (r ∷ rs) (suc room) at k further f l h =
      let w = line_within at k h.0 r h.1.0 l in
      let one : k + 1 + length rs ≡ k + length (r ∷ rs) = omega arith in
      let less : room - length rs ≡ suc room - length (r ∷ rs) = omega arith in
      lines_row room text at k w.0
      ∙ ap (λ o. with_row k o (λ next. lines_from room text next (k + 1))) (row_made at k h.0 r h.1.0)
      ∙ ap (ahead (r ∷ [])) (lines_ahead rs room h.0 (k + 1) further (omega arith) w.1 h.1.1)
      ∙ ap (λ n. ahead (r ∷ rs) (lines_from (room - length rs) text further n)) one ∙ ap (λ n. ahead (r ∷ rs) (lines_from n text further (k + length (r ∷ rs)))) less

  pub lines_forward : (rows : List Row) (at k further : ℕ) → at ≤ length text → LinesTo text at k rows further → (at ≤ further) × (further ≤ length text)
  lines_forward [] at k further l h = (omega arith, omega arith)
  lines_forward (r ∷ rs) at k further l h =
      let w = line_within at k h.0 r h.1.0 l in
      let g = lines_forward rs h.0 (k + 1) further w.1 h.1.1 in
      (omega (arith, w.2, g.0), g.1)

  lines_made : (rows : List Row) (room at k : ℕ) → length rows ≤ room → at ≤ length text → LinesTo text at k rows (length text) → lines_from room text at k ≡ record { rows = rows; result = Ok (k + length rows) }
  lines_made rows room at k f l h =
      lines_ahead rows room at k (length text) f l h
      ∙ ap (ahead rows) (lines_end (room - length rows) text (length text) (k + length rows) (omega arith))
      ∙ ap (λ x. record { rows = x; result = Ok (k + length rows) }) (append-nil rows)

  -- the whole text
  abbrev Whole : ℕ → Read → Type 0
  Whole n read = read.result ≡ Ok n → States text read.rows

  pub head_length : headed text ≡ true → 28 ≤ length text
  head_length t =
      let same : header ≡ take 28 text = (bytes_eq-Decides header (take 28 text)).0 t in
      let long : 28 ≡ length (take 28 text) = ap length same in
      omega (arith, length-take 28 text)

  some_lines : (rows : List Row) → LinesTo text 28 0 rows (length text) → (length text ≡ 28 → ⊥) → 1 ≤ length rows
  some_lines [] h longer = absurd (longer (sym h))
  some_lines (r ∷ rs) h longer = omega arith

  past_head : (places n : ℕ) (t : Bool) → headed text ≡ true → eqb (length text) 28 ≡ t → Whole n (cond t (refused reason.Count 1) (further_lines text places))
  past_head places n true h t e = let z : ◌≡◌ {A = ℕ} 0 1 = cc in absurd (omega arith)
  past_head places n false h t e =
      let lines = lines_there (min places 256) 28 0 n (head_length h) e in
      record { some = some_lines _ lines (eqb-false (length text) 28 t); headed = sym ((bytes_eq-Decides header (take 28 text)).0 h); lines = lines }

  by_head : (places n : ℕ) (t : Bool) → headed text ≡ t → Whole n (cond t (cond (eqb (length text) 28) (refused reason.Count 1) (further_lines text places)) (refused reason.Header 1))
  by_head places n true h e = past_head places n _ h refl e
  by_head places n false h e = let z : ◌≡◌ {A = ℕ} 0 1 = cc in absurd (omega arith)

  -- the rows that were read are stated
  pub read_stated : (places n : ℕ) → (lines_of text places).result ≡ Ok n → States text (lines_of text places).rows
  read_stated places n e = by_head places n _ refl e

  -- and there was room for them
  pub read_fits : (places n : ℕ) → (lines_of text places).result ≡ Ok n → Fits text places (lines_of text places).rows
  read_fits places n e =
      let few = read_few text places in
      record { stated = read_stated places n e; room = omega arith; few = omega arith }

  -- past the first line
  pub past_first : (places : ℕ) → take 28 text ≡ header → (length text ≡ 28 → ⊥) → lines_of text places ≡ further_lines text places
  past_first places h longer =
      ap (λ t. cond t (cond (eqb (length text) 28) (refused reason.Count 1) (further_lines text places)) (refused reason.Header 1)) ((bytes_eq-Decides header (take 28 text)).1 (sym h))
      ∙ ap (λ t. cond t (refused reason.Count 1) (further_lines text places)) (ne_eqb (length text) 28 longer)

  longer_text : (rows : List Row) → 1 ≤ length rows → 28 ≤ length text → LinesTo text 28 0 rows (length text) → length text ≡ 28 → ⊥
  longer_text [] s h l e = omega arith
  longer_text (r ∷ rs) s h l e = let w = (line_within 28 0 l.0 r l.1.0 h).0 in omega arith

  -- rows that are stated are read, where there is room for them
  pub stated_read : (places : ℕ) (rows : List Row) → Fits text places rows → lines_of text places ≡ record { rows = rows; result = Ok (length rows) }
  stated_read places rows fit =
      let h = fit.stated in
      let f = fit.room in
      let few = fit.few in
      let long = head_length ((bytes_eq-Decides header (take 28 text)).1 (sym h.headed)) in
      let none : 0 + length rows ≡ length rows = omega arith in
      past_first places h.headed (longer_text rows h.some long h.lines)
      ∙ lines_made rows (min places 256) 28 0 (omega arith) long h.lines
      ∙ ap (λ n. record { rows = rows; result = Ok n }) none

-- what a reading answers and leaves, in terms of the rows that the text states
module _ (text : List ℕ) (table left : List Row) (rows_are : left ≡ laid (lines_of text (length table)).rows table) where
  pub front_stated : (n : ℕ) → (lines_of text (length table)).result ≡ Ok n → States text (take n left)
  front_stated n e =
      let c = read_counts text (length table) n e in
      let same : take n left ≡ (lines_of text (length table)).rows = ap (take n) rows_are ∙ take_at (lines_of text (length table)).rows _ n (omega arith) in
      subst (States text) (sym same) (read_stated text (length table) n e)

  pub every_stated : (r : Result ℕ SheetRefusal) → r ≡ (lines_of text (length table)).result → IfOk r (λ n. States text (take n left))
  every_stated (Ok n) e = front_stated n (sym e)
  every_stated (Err f) e = tt

  pub all_read : (r : Result ℕ SheetRefusal) → r ≡ (lines_of text (length table)).result → (rows : List Row) → Fits text (length table) rows → (r ≡ Ok (length rows)) × (left ≡ laid rows table)
  all_read r e rows fit =
      let is = stated_read text (length table) rows fit in
      (e ∙ ap (λ d. d.result) is, rows_are ∙ ap (λ d. laid d.rows table) is)
