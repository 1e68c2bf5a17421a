-- The names of a record's fields, as a list and by the fields' places.
use Rattle.std.proofs.Common.{◌≡◌, ℕ, zero, suc, ◌+◌, ◌-◌, ◌<◌, Bool, true, false, cond, not, ◌&&◌, ◌||◌, ltb, List, [], ◌∷◌, length, get_or, Some, None, sym, refl, ap, ◌∙◌, subst, ⊎_elim, arith, ltb-true, lt-ltb}
use Rattle.std.specs.Str.{bytes_eq}
use Rattle.std.proofs.lemmas.Slice.Eq.{bytes_eq-Decides}
use Rattle.sheet_text.specs.declared.row.Row.{Row}
use Rattle.sheet_text.specs.declared.row.Column.{Column}
use Rattle.sheet_text.specs.declared.row.Column.TheVariants as column
use Rattle.sheet_text.specs.declared.word.Word.{Word}
use Rattle.sheet_text.specs.declared.word.Word.TheVariants as word
use Rattle.sheet_text.specs.declared.word.TypeWord.TheVariants as type
use Rattle.std.proofs.lemmas.Bool.{or_parts, false≢true, both_ways, and_from, or_cases, not_from_false, false_from_ne_true}
use Rattle.sheet.specs.Checks.{no_row, word_at}
use Rattle.sheet.specs.Fields.{member, distinct, field_in, chain_names, fields_differ, is_record}
use Rattle.sheet.specs.Keeps.{Holds, AsAsked, FieldAt, name_at, NamesDiffer}
use Rattle.sheet.specs.Rules.{family_of, rule_of}
use Rattle.sheet.specs.Verdict.{lawful}
use Rattle.sheet.specs.declared.rule.Family.TheVariants as family
use Rattle.sheet.specs.declared.rule.Need.TheVariants as need
use Rattle.sheet.proofs.Chains.{chain_end, chain_none, chain_some}
use Rattle.sheet.proofs.Lawful.{each_passes, fields_apart}

-- lists of names with no name twice
both : (a b : Bool) → (not a && b) ≡ true → (a ≡ false) × (b ≡ true)
both false b e = (refl, e)
both true b e = absurd (false≢true e)

absent : (x : List ℕ) (ys : List (List ℕ)) → member x ys ≡ false → (i : ℕ) → i < length ys → x ≡ get_or ys i [] → ⊥
absent x [] e i h s = absurd (omega arith)
absent x (y ∷ ys) e zero h s = both_ways _ (or_parts (bytes_eq x y) (member x ys) e).0 ((bytes_eq-Decides x y).1 s)
absent x (y ∷ ys) e (suc i) h s = absent x ys (or_parts (bytes_eq x y) (member x ys) e).1 i (omega arith) s

pub differ : (xs : List (List ℕ)) → distinct xs ≡ true → (i j : ℕ) → i < j → j < length xs → get_or xs i [] ≡ get_or xs j [] → ⊥
differ [] e i j h l s = absurd (omega arith)
differ (x ∷ xs) e i zero h l s = absurd (omega arith)
differ (x ∷ xs) e zero (suc j) h l s = absent x xs (both (member x xs) (distinct xs) e).0 j (omega arith) s
differ (x ∷ xs) e (suc i) (suc j) h l s = differ xs (both (member x xs) (distinct xs) e).1 i j (omega arith) (omega arith) s

pub member_at : (x : List ℕ) (ys : List (List ℕ)) → member x ys ≡ true → (i : ℕ) × ((i < length ys) × (x ≡ get_or ys i []))
member_at x [] e = absurd (false≢true e)
member_at x (y ∷ ys) e =
    ⊎_elim
    (λ s. (0, (omega arith, (bytes_eq-Decides x y).0 s)))
    (λ m. let r = member_at x ys m in (suc r.0, (omega (arith, r.1.0), r.1.1)))
    (or_cases (bytes_eq x y) (member x ys) e)

pub distinct_from : (xs : List (List ℕ)) → ((i j : ℕ) → i < j → j < length xs → get_or xs i [] ≡ get_or xs j [] → ⊥) → distinct xs ≡ true
distinct_from [] h = refl
distinct_from (x ∷ xs) h =
    and_from _ _
    (not_from_false (member x xs) (false_from_ne_true (member x xs) (λ m. let r = member_at x xs m in h 0 (suc r.0) (omega arith) (omega (arith, r.1.0)) r.1.1)))
    (distinct_from xs (λ i j l m. h (suc i) (suc j) (omega arith) (omega arith)))

-- the one word of the fields
pub field_word : (w : Word) → family_of w ≡ family.Field → w ≡ word.Field
field_word word.Field e = refl
field_word (word.Type w) e = let z : ◌≡◌ {A = ℕ} 0 1 = cc in absurd (omega arith)
field_word (word.Number w) e = let z : ◌≡◌ {A = ℕ} 0 1 = cc in absurd (omega arith)
field_word (word.Truth w) e = let z : ◌≡◌ {A = ℕ} 0 1 = cc in absurd (omega arith)
field_word word.From e = let z : ◌≡◌ {A = ℕ} 0 1 = cc in absurd (omega arith)
field_word (word.Step w) e = let z : ◌≡◌ {A = ℕ} 0 1 = cc in absurd (omega arith)

-- a row that a column names
field_there : (rows : List Row) (c : Column) (a : ℕ) → c ≡ column.Number a → a < length rows → field_in rows c ≡ Some (get_or rows a no_row)
field_there rows c a e h = ap (field_in rows) e ∙ ap (λ t. cond t (Some (get_or rows a no_row)) None) (lt-ltb a (length rows) h)

module _ (text : List ℕ) (rows : List Row) where
  abbrev Listed : List (List ℕ) → ℕ → ℕ → Type 0
  Listed xs i a = (i < length xs) × (get_or xs i [] ≡ name_at text rows a)

  -- a field that is not too far down the chain is listed at its place
  pub field_listed : (i n : ℕ) (c : Column) (a : ℕ) → i < n → FieldAt rows c i a → Listed (chain_names n text rows c) i a
  field_listed zero n c a l f =
      subst (λ xs. Listed xs 0 a) (sym (chain_some text rows c n (omega arith) (get_or rows a no_row) (field_there rows c a f.0 f.1))) (omega arith, refl)
  field_listed (suc i) n c a l f =
      let b = f.0 in
      let r = field_listed i (n - 1) (get_or rows b no_row).two a (omega arith) f.1.2 in
      subst (λ xs. Listed xs (suc i) a) (sym (chain_some text rows c n (omega arith) (get_or rows b no_row) (field_there rows c b f.1.0 f.1.1))) (omega (arith, r.0), r.1)

  -- every name of the list is a field's
  abbrev FieldOf : Column → List (List ℕ) → ℕ → Type 0
  FieldOf c xs i = (a : ℕ) × (FieldAt rows c i a × (get_or xs i [] ≡ name_at text rows a))

  none_listed : (c : Column) (xs : List (List ℕ)) (i : ℕ) → xs ≡ [] → i < length xs → FieldOf c xs i
  none_listed c xs i e h = let z : length xs ≡ 0 = ap length e in absurd (omega arith)

  -- one row more of the chain
  module _ (b n : ℕ) (later : (j : ℕ) → j < length (chain_names n text rows (get_or rows b no_row).two) → FieldOf (get_or rows b no_row).two (chain_names n text rows (get_or rows b no_row).two) j) where
    longer : (j : ℕ) → b < length rows → j < length (name_at text rows b ∷ chain_names n text rows (get_or rows b no_row).two) → FieldOf (column.Number b) (name_at text rows b ∷ chain_names n text rows (get_or rows b no_row).two) j
    longer zero l g = (b, ((refl, l), refl))
    longer (suc j) l g = let r = later j (omega arith) in (r.0, ((b, (refl, l, r.1.0)), r.1.1))

    by_test : (i : ℕ) (t : Bool) → ltb b (length rows) ≡ t → i < length (chain_names (suc n) text rows (column.Number b)) → FieldOf (column.Number b) (chain_names (suc n) text rows (column.Number b)) i
    by_test i true e h =
        let l = ltb-true b (length rows) e in
        let back : suc n - 1 ≡ n = omega arith in
        let is = chain_some text rows (column.Number b) (suc n) (omega arith) (get_or rows b no_row) (field_there rows (column.Number b) b refl l) ∙ ap (λ m. name_at text rows b ∷ chain_names m text rows (get_or rows b no_row).two) back in
        subst (λ xs. FieldOf (column.Number b) xs i) (sym is) (longer i l (subst (λ xs. i < length xs) is h))
    by_test i false e h =
        none_listed (column.Number b) _ i (chain_none text rows (column.Number b) (suc n) (omega arith) (ap (λ t. cond t (Some (get_or rows b no_row)) None) e)) h

  pub listed_field : (n : ℕ) (c : Column) (i : ℕ) → i < length (chain_names n text rows c) → FieldOf c (chain_names n text rows c) i
  listed_field zero c i h = none_listed c _ i (chain_end text rows c 0 (omega arith)) h
  listed_field (suc n) column.Blank i h = none_listed column.Blank _ i (chain_none text rows column.Blank (suc n) (omega arith) refl) h
  listed_field (suc n) (column.Name s) i h = none_listed (column.Name s) _ i (chain_none text rows (column.Name s) (suc n) (omega arith) refl) h
  listed_field (suc n) (column.Number b) i h = by_test b n (listed_field n (get_or rows b no_row).two) i (ltb b (length rows)) refl h

  pub apart_from : (k : ℕ) → NamesDiffer text rows k → distinct (chain_names (length rows) text rows (get_or rows k no_row).one) ≡ true
  apart_from k d =
      let c = (get_or rows k no_row).one in
      distinct_from (chain_names (length rows) text rows c)
      (λ i j l m e.
      let x = listed_field (length rows) c i (omega arith) in
      let y = listed_field (length rows) c j m in
      d i j x.0 y.0 l x.1.0 y.1.0 (sym x.1.1 ∙ e ∙ y.1.1))

  module _ (columns : (k : ℕ) → k < length rows → AsAsked text rows k (get_or rows k no_row)) where
    next_field : (b : ℕ) → b < length rows → word_at rows b ≡ word.Field → Holds text rows b (need.RowOrBlank family.Field) (get_or rows b no_row).two
    next_field b h w = subst (λ v. Holds text rows b (rule_of v).two (get_or rows b no_row).two) w (columns b h).two

    -- the fields of a chain stand later and later
    pub field_later : (i k : ℕ) (c : Column) (a : ℕ) → Holds text rows k (need.RowOrBlank family.Field) c → FieldAt rows c i a → (k + i < a) × (a < length rows)
    field_later zero k c a h f =
        ⊎_elim (λ e. let z : ◌≡◌ {A = ℕ} 0 1 = cc in absurd (omega arith)) (λ n. let l = n.1.1.later in let e = n.1.0 in let g = f.0 in let same : n.0 ≡ a = cc in (omega arith, f.1)) h
    field_later (suc i) k c a h f =
        ⊎_elim
        (λ e. let g = f.1.0 in let z : ◌≡◌ {A = ℕ} 0 1 = cc in absurd (omega arith))
        (λ n.
        let l = n.1.1 in
        let e = n.1.0 in
        let g = f.1.0 in
        let same : n.0 ≡ f.0 = cc in
        let r = field_later i f.0 (get_or rows f.0 no_row).two a (next_field f.0 f.1.1 (field_word (word_at rows f.0) (ap (λ m. family_of (word_at rows m)) (sym same) ∙ l.family))) f.1.2 in
        (omega (arith, r.0, l.later), r.1))
        h

    module _ (k : ℕ) (h : k < length rows) (w : word_at rows k ≡ word.Type type.Rec) where
      first_field : Holds text rows k (need.RowOrBlank family.Field) (get_or rows k no_row).one
      first_field = subst (λ v. Holds text rows k (rule_of v).one (get_or rows k no_row).one) w (columns k h).one

      pub names_apart : distinct (chain_names (length rows) text rows (get_or rows k no_row).one) ≡ true → NamesDiffer text rows k
      names_apart d i j a b l f g s =
          let c = (get_or rows k no_row).one in
          let p = field_later i k c a first_field f in
          let q = field_later j k c b first_field g in
          let x = field_listed i (length rows) c a (omega (arith, p.0, p.1)) f in
          let y = field_listed j (length rows) c b (omega (arith, q.0, q.1)) g in
          differ (chain_names (length rows) text rows c) d i j l y.0 (x.1 ∙ s ∙ sym y.1)

-- the names of the fields of record k differ
pub names_differ : (text : List ℕ) (rows : List Row) → lawful text rows ≡ true → (k : ℕ) → k < length rows → word_at rows k ≡ word.Type type.Rec → distinct (chain_names (length rows) text rows (get_or rows k no_row).one) ≡ true
names_differ text rows ok k h w =
    let r = get_or rows k no_row in
    sym (ap (λ v. not (is_record v) || distinct (chain_names (length rows) text rows r.one)) w)
    ∙ each_passes (λ n r. fields_differ text rows r) 0 rows (fields_apart text rows ok) k h
