-- What the first fault of rows says about them.
use Rattle.std.proofs.Common.{◌≡◌, ℕ, zero, suc, ◌+◌, ◌<◌, ◌≤◌, Bool, true, false, cond, not, ◌&&◌, ◌||◌, eqb, ltb, List, [], ◌∷◌, length, get_or, Some, None, Option, sym, refl, ap, ◌∙◌, subst, inl, inr, ⊎_elim, arith, ltb-false, ltb-true, lt-ltb, eqb-true}
use borrow.Author.Tests.{eqb-false}
use Rattle.sheet_text.specs.declared.refusal.Reason.{Reason}
use Rattle.sheet_text.specs.declared.refusal.Reason.TheVariants as reason
use Rattle.sheet_text.specs.declared.refusal.SheetRefusal.{SheetRefusal}
use Rattle.sheet_text.specs.declared.row.Row.{Row}
use Rattle.std.proofs.lemmas.Bool.{true≢false, both_ways, or_left, or_right, false_from_ne_true}
use Rattle.sheet.specs.Rules.{family_of}
use Rattle.sheet.specs.Checks.{no_row, word_at, same_family, keeps_rule, first_failing}
use Rattle.sheet.specs.Fields.{chain_names, distinct, member, is_record, fields_differ}
use Rattle.sheet.specs.Depths.{entries, shallow}
use Rattle.sheet.specs.Verdict.{fault, fault_or, column_fault, field_fault, depth_fault, verdict}
use Rattle.sheet.specs.Keeps.{AsAsked}
use Rattle.sheet.specs.Refusing.{KeepsRule, NameTwice, TooDeep, Nowhere, Lowest, Counted, AllKeepRules, Refused}
use Rattle.sheet.specs.declared.rule.Family.TheVariants as family
use Rattle.sheet.proofs.Families.{same_is, same_from}
use Rattle.sheet.proofs.ColumnLaws.{kept_is, kept_from}
use Rattle.sheet.proofs.DepthLaws.{depth_at}
use Rattle.sheet.proofs.Depths.{has_depth, depth_one}
use Rattle.sheet.proofs.FieldLaws.{names_apart, listed_field, member_at}
use Rattle.sheet.proofs.Keeping.{record_word, all_pass}
use Rattle.sheet.proofs.Faults.{no_rows, many_rows, column_fault_lem, field_fault_lem, depth_fault_lem}
use Rattle.sheet.proofs.Lawful.{each_passes}

-- the first row that fails a test
pub record First (p : ℕ → Row → Bool) (start : ℕ) (rs : List Row) (k : ℕ) : Type 0 where
  pub i : ℕ
  pub at : k ≡ start + i
  pub exists : i < length rs
  pub fails : p k (get_or rs i no_row) ≡ false
  pub before : (j : ℕ) → j < i → p (start + j) (get_or rs j no_row) ≡ true

first_fails : (p : ℕ → Row → Bool) (start : ℕ) (rs : List Row) (k : ℕ) → first_failing p start rs ≡ Some k → First p start rs k
first_fails p start [] k e = let z : ◌≡◌ {A = ℕ} 0 1 = cc in absurd (omega arith)
first_fails p start (r ∷ rs) k e = by_test (p start r) refl e (first_fails p (start + 1) rs k)
  where
    by_test : (t : Bool) → p start r ≡ t → cond t (first_failing p (start + 1) rs) (Some start) ≡ Some k → (first_failing p (start + 1) rs ≡ Some k → First p (start + 1) rs k) → First p start (r ∷ rs) k
    by_test false f h later =
        let same : start ≡ k = cc in
        record { i = 0; at = omega arith; exists = omega arith; fails = ap (λ n. p n r) (sym same) ∙ f; before = λ j l. absurd (omega arith) }
    by_test true f h later =
        let g = later h in
        let e = g.at in
        let more = g.exists in
        record { i = suc g.i; at = omega arith; exists = omega arith; fails = g.fails; before = earlier g.i g.before }
      where
        earlier : (i : ℕ) → ((j : ℕ) → j < i → p (start + 1 + j) (get_or rs j no_row) ≡ true) → (j : ℕ) → j < suc i → p (start + j) (get_or (r ∷ rs) j no_row) ≡ true
        earlier i g zero l = let same : start + 0 ≡ start = omega arith in ap (λ n. p n r) same ∙ f
        earlier i g (suc j) l = let same : start + suc j ≡ start + 1 + j = omega arith in ap (λ n. p n (get_or rs j no_row)) same ∙ g j (omega arith)

-- the lowest row with a fault, where a test finds the fault
lowest : (p : ℕ → Row → Bool) (rows : List Row) (Fault : ℕ → Type 0) (k : ℕ) → first_failing p 0 rows ≡ Some k
    → ((j : ℕ) → j < length rows → p j (get_or rows j no_row) ≡ false → Fault j)
    → ((j : ℕ) → j < length rows → p j (get_or rows j no_row) ≡ true → Fault j → ⊥)
    → Lowest rows Fault (k + 2)
lowest p rows Fault k e bad good =
    let f = first_fails p 0 rows k e in
    let same : f.i ≡ k = let a = f.at in omega arith in
    let there : k < length rows = let x = f.exists in omega arith in
    record {
      k = k;
      line_of = refl;
      exists = there;
      here = bad k there (ap (λ n. p k (get_or rows n no_row)) (sym same) ∙ f.fails);
      lower = λ j l. good j (omega arith) (let zero-plus : j ≡ 0 + j = omega arith in ap (λ n. p n (get_or rows j no_row)) zero-plus ∙ f.before j (omega arith));
    }

-- the way back
first_is : (p : ℕ → Row → Bool) (start : ℕ) (rs : List Row) (i : ℕ) → i < length rs → p (start + i) (get_or rs i no_row) ≡ false → ((j : ℕ) → j < i → p (start + j) (get_or rs j no_row) ≡ true) → first_failing p start rs ≡ Some (start + i)
first_is p start [] i h f before = absurd (omega arith)
first_is p start (r ∷ rs) zero h f before =
    let same : start ≡ start + 0 = omega arith in
    ap (λ t. cond t (first_failing p (start + 1) rs) (Some start)) (ap (λ n. p n r) same ∙ f) ∙ ap Some same
first_is p start (r ∷ rs) (suc i) h f before =
    let none : start ≡ start + 0 = omega arith in
    let same : start + 1 + i ≡ start + suc i = omega arith in
    ap (λ t. cond t (first_failing p (start + 1) rs) (Some start)) (ap (λ n. p n r) none ∙ before 0 (omega arith))
    ∙ first_is p (start + 1) rs i (omega arith) (ap (λ n. p n (get_or rs i no_row)) same ∙ f)
    (λ j l. let next : start + 1 + j ≡ start + suc j = omega arith in ap (λ n. p n (get_or rs j no_row)) next ∙ before (suc j) (omega arith))
    ∙ ap Some same

-- a test that is not false is true
upheld : (t : Bool) → (t ≡ false → ⊥) → t ≡ true
upheld true never = refl
upheld false never = absurd (never refl)

lowest_found : (p : ℕ → Row → Bool) (rows : List Row) (Fault : ℕ → Type 0) (line : ℕ) (l : Lowest rows Fault line)
    → ((j : ℕ) → j < length rows → p j (get_or rows j no_row) ≡ false → Fault j)
    → ((j : ℕ) → j < length rows → p j (get_or rows j no_row) ≡ true → Fault j → ⊥)
    → first_failing p 0 rows ≡ Some l.k
lowest_found p rows Fault line l bad good =
    let there = l.exists in
    let none : 0 + l.k ≡ l.k = omega arith in
    first_is p 0 rows l.k there
    (ap (λ n. p n (get_or rows l.k no_row)) none ∙ false_from_ne_true (p l.k (get_or rows l.k no_row)) (λ t. good l.k there t l.here))
    (λ j b. let same : 0 + j ≡ j = omega arith in ap (λ n. p n (get_or rows j no_row)) same ∙ upheld (p j (get_or rows j no_row)) (λ f. l.lower j b (bad j (omega arith) f)))
    ∙ ap Some none

-- names that are not all different
twice : (xs : List (List ℕ)) → distinct xs ≡ false → (i : ℕ) × ((j : ℕ) × ((i < j) × (j < length xs) × (get_or xs i [] ≡ get_or xs j [])))
twice [] e = absurd (true≢false e)
twice (x ∷ xs) e = by_test (member x xs) refl e (twice xs)
  where
    by_test : (t : Bool) → member x xs ≡ t → (not t && distinct xs) ≡ false → (distinct xs ≡ false → (i : ℕ) × ((j : ℕ) × ((i < j) × (j < length xs) × (get_or xs i [] ≡ get_or xs j [])))) → (i : ℕ) × ((j : ℕ) × ((i < j) × (j < length (x ∷ xs)) × (get_or (x ∷ xs) i [] ≡ get_or (x ∷ xs) j [])))
    by_test true m h later = let r = member_at x xs m in (0, (suc r.0, (omega arith, omega (arith, r.1.0), r.1.1)))
    by_test false m h later = let r = later h in (suc r.0, (suc r.1.0, (omega (arith, r.1.1.0), omega (arith, r.1.1.1), r.1.1.2)))

neither : (a b : Bool) → (not a || b) ≡ false → (a ≡ true) × (b ≡ false)
neither true b e = (refl, e)
neither false b e = absurd (true≢false e)

both_hold : (a b : Bool) → not (a && b) ≡ false → (a ≡ true) × (b ≡ true)
both_hold true true e = (refl, refl)
both_hold true false e = absurd (true≢false e)
both_hold false b e = absurd (true≢false e)

module _ (text : List ℕ) (rows : List Row) where
  -- columns
  rule_is : (k : ℕ) → keeps_rule text rows k (get_or rows k no_row) ≡ true → KeepsRule text rows k
  rule_is k e =
      let q = kept_is text rows k (get_or rows k no_row) e in
      (q.0, λ z. same_is _ family.Type (sym (ap (λ n. ltb 0 n || same_family (family_of (word_at rows k)) family.Type) z) ∙ q.1))

  first_or_later : (k : ℕ) → (k ≡ 0 → family_of (word_at rows k) ≡ family.Type) → (ltb 0 k || same_family (family_of (word_at rows k)) family.Type) ≡ true
  first_or_later zero h = or_right (ltb 0 0) _ (same_from _ family.Type (h refl))
  first_or_later (suc k) h = or_left (ltb 0 (suc k)) _ (lt-ltb 0 (suc k) (omega arith))

  rule_from : (k : ℕ) → KeepsRule text rows k → keeps_rule text rows k (get_or rows k no_row) ≡ true
  rule_from k h = kept_from text rows k (get_or rows k no_row) h.0 (first_or_later k h.1)

  rule_bad : (k : ℕ) → k < length rows → keeps_rule text rows k (get_or rows k no_row) ≡ false → KeepsRule text rows k → ⊥
  rule_bad k l f kept = both_ways _ f (rule_from k kept)

  rule_good : (k : ℕ) → k < length rows → keeps_rule text rows k (get_or rows k no_row) ≡ true → (KeepsRule text rows k → ⊥) → ⊥
  rule_good k l t never = never (rule_is k t)

  all_keep : column_fault text rows ≡ None → (k : ℕ) → k < length rows → KeepsRule text rows k
  all_keep e k h =
      let same : k ≡ 0 + k = omega arith in
      rule_is k (ap (λ n. keeps_rule text rows n (get_or rows k no_row)) same ∙ each_passes (keeps_rule text rows) 0 rows e k h)

  columns_fine : AllKeepRules text rows → column_fault text rows ≡ None
  columns_fine kept = all_pass (keeps_rule text rows) rows (λ k h. rule_from k (kept k h))

  module _ (kept : AllKeepRules text rows) where
    columns : (k : ℕ) → k < length rows → AsAsked text rows k (get_or rows k no_row)
    columns k h = (kept k h).0

    -- names
    name_bad : (k : ℕ) → k < length rows → fields_differ text rows (get_or rows k no_row) ≡ false → NameTwice text rows k
    name_bad k h e =
        let n = neither (is_record (word_at rows k)) (distinct (chain_names (length rows) text rows (get_or rows k no_row).one)) e in
        let xs = chain_names (length rows) text rows (get_or rows k no_row).one in
        let t = twice xs n.1 in
        let x = listed_field text rows (length rows) (get_or rows k no_row).one t.0 (omega (arith, t.1.1.0, t.1.1.1)) in
        let y = listed_field text rows (length rows) (get_or rows k no_row).one t.1.0 t.1.1.1 in
        record {
          is_record = record_word (word_at rows k) n.0;
          i = t.0;
          j = t.1.0;
          a = x.0;
          b = y.0;
          before = t.1.1.0;
          first = x.1.0;
          second = y.1.0;
          same = sym x.1.1 ∙ t.1.1.2 ∙ y.1.1;
        }

    name_good : (k : ℕ) → k < length rows → fields_differ text rows (get_or rows k no_row) ≡ true → NameTwice text rows k → ⊥
    name_good k h e n =
        let w = n.is_record in
        let d : distinct (chain_names (length rows) text rows (get_or rows k no_row).one) ≡ true = sym (ap (λ v. not (is_record v) || distinct (chain_names (length rows) text rows (get_or rows k no_row).one)) w) ∙ e in
        names_apart text rows columns k h w d n.i n.j n.a n.b n.before n.first n.second n.same

    names_once : field_fault text rows ≡ None → Nowhere rows (NameTwice text rows)
    names_once e k h = name_good k h (each_passes (λ j r. fields_differ text rows r) 0 rows e k h)

    -- depths
    depth_bad : (k : ℕ) → k < length rows → shallow (entries 0 rows) k (get_or rows k no_row) ≡ false → TooDeep rows k
    depth_bad k h e =
        let p = both_hold (same_family (family_of (word_at rows k)) family.Type) (ltb 8 (depth_at rows k)) e in
        let f = same_is _ family.Type p.0 in
        record { is_type = f; depth = depth_at rows k; is = has_depth text rows columns k h f; above = ltb-true 8 (depth_at rows k) p.1 }

    depth_good : (k : ℕ) → k < length rows → shallow (entries 0 rows) k (get_or rows k no_row) ≡ true → TooDeep rows k → ⊥
    depth_good k h e d =
        let is = depth_one text rows columns d.is h in
        let deep : 8 < depth_at rows k = subst (λ n. 8 < n) is d.above in
        both_ways _
        (ap (λ t. not (t && ltb 8 (depth_at rows k))) (same_from _ family.Type d.is_type) ∙ ap not (lt-ltb 8 (depth_at rows k) deep))
        e

  none_twice : AllKeepRules text rows → Nowhere rows (NameTwice text rows) → field_fault text rows ≡ None
  none_twice kept once =
      all_pass (λ j r. fields_differ text rows r) rows (λ k h. upheld (fields_differ text rows (get_or rows k no_row)) (λ f. once k h (name_bad kept k h f)))

  -- the verdict, test by test
  abbrev Told : SheetRefusal → Type 0
  Told e = Refused text rows e.reason e.line

  by_depth : (d : Option ℕ) (e : SheetRefusal) → Counted rows → column_fault text rows ≡ None → field_fault text rows ≡ None → depth_fault rows ≡ d → fault_or reason.Depth d None ≡ Some e → Told e
  by_depth None e n a b g h = let z : ◌≡◌ {A = ℕ} 0 1 = cc in absurd (omega arith)
  by_depth (Some k) e n a b g h =
      let same : record { reason = reason.Depth; line = k + 2 } ≡ e = cc in
      let kept = all_keep a in
      subst Told same (n, kept, names_once kept b, lowest (shallow (entries 0 rows)) rows (TooDeep rows) k g (depth_bad kept) (depth_good kept))

  by_field : (b : Option ℕ) (e : SheetRefusal) → Counted rows → column_fault text rows ≡ None → field_fault text rows ≡ b → fault_or reason.Field b (fault_or reason.Depth (depth_fault rows) None) ≡ Some e → Told e
  by_field None e n a g h = by_depth _ e n a g refl h
  by_field (Some k) e n a g h =
      let same : record { reason = reason.Field; line = k + 2 } ≡ e = cc in
      let kept = all_keep a in
      subst Told same (n, kept, lowest (λ j r. fields_differ text rows r) rows (NameTwice text rows) k g (name_bad kept) (name_good kept))

  by_column : (a : Option ℕ) (e : SheetRefusal) → Counted rows → column_fault text rows ≡ a → fault_or reason.Column a (fault_or reason.Field (field_fault text rows) (fault_or reason.Depth (depth_fault rows) None)) ≡ Some e → Told e
  by_column None e n g h = by_field _ e n g refl h
  by_column (Some k) e n g h =
      let same : record { reason = reason.Column; line = k + 2 } ≡ e = cc in
      subst Told same (n, lowest (keeps_rule text rows) rows (λ j. KeepsRule text rows j → ⊥) k g rule_bad rule_good)

  by_many : (t : Bool) (e : SheetRefusal) → 1 ≤ length rows → ltb 256 (length rows) ≡ t → cond t (fault reason.Count 258) (fault_or reason.Column (column_fault text rows) (fault_or reason.Field (field_fault text rows) (fault_or reason.Depth (depth_fault rows) None))) ≡ Some e → Told e
  by_many true e s g h =
      let same : record { reason = reason.Count; line = 258 } ≡ e = cc in
      subst Told same (inr (ltb-true 256 (length rows) g, refl))
  by_many false e s g h = by_column _ e (s, ltb-false 256 (length rows) g) refl h

  by_none : (t : Bool) (e : SheetRefusal) → eqb (length rows) 0 ≡ t → cond t (fault reason.Count 1) (cond (ltb 256 (length rows)) (fault reason.Count 258) (fault_or reason.Column (column_fault text rows) (fault_or reason.Field (field_fault text rows) (fault_or reason.Depth (depth_fault rows) None)))) ≡ Some e → Told e
  by_none true e g h =
      let same : record { reason = reason.Count; line = 1 } ≡ e = cc in
      subst Told same (inl (eqb-true (length rows) 0 g, refl))
  by_none false e g h = let ne = eqb-false (length rows) 0 g in by_many _ e (positive (length rows) ne) refl h
    where
      positive : (n : ℕ) → (n ≡ 0 → ⊥) → 1 ≤ n
      positive zero never = absurd (never refl)
      positive (suc n) never = omega arith

  -- a refusal says what it has to
  pub refused : (e : SheetRefusal) → verdict text rows ≡ Some e → Refused text rows e.reason e.line
  unfolding verdict
  refused e h = by_none _ e refl h

  -- and what it says is refused so
  at_line : (r : Reason) (line k : ℕ) → line ≡ k + 2 → fault r (k + 2) ≡ Some (record { reason = r; line = line })
  at_line r line k e = ap (λ l. Some (record { reason = r; line = l })) (sym e)

  pub refuses_so : (r : Reason) (line : ℕ) → Refused text rows r line → verdict text rows ≡ Some (record { reason = r; line = line })
  unfolding verdict
  refuses_so reason.Header line h = absurd h
  refuses_so reason.Line line h = absurd h
  refuses_so reason.Word line h = absurd h
  refuses_so reason.Count line h =
      ⊎_elim
      (λ p. no_rows (length rows) (column_fault text rows) (field_fault text rows) (depth_fault rows) p.0 ∙ ap (λ l. Some (record { reason = reason.Count; line = l })) (sym p.1))
      (λ p. many_rows (length rows) (column_fault text rows) (field_fault text rows) (depth_fault rows) p.0 ∙ ap (λ l. Some (record { reason = reason.Count; line = l })) (sym p.1))
      h
  refuses_so reason.Column line h =
      let some = h.0.0 in
      let l = h.1 in
      column_fault_lem (length rows) (column_fault text rows) (field_fault text rows) (depth_fault rows) (omega arith) h.0.1 l.k (lowest_found (keeps_rule text rows) rows (λ j. KeepsRule text rows j → ⊥) line l rule_bad rule_good)
      ∙ at_line reason.Column line l.k l.line_of
  refuses_so reason.Field line h =
      let some = h.0.0 in
      let kept = h.1 in
      let l = h.2 in
      field_fault_lem (length rows) (column_fault text rows) (field_fault text rows) (depth_fault rows) (omega arith) h.0.1 (columns_fine kept) l.k (lowest_found (λ j r. fields_differ text rows r) rows (NameTwice text rows) line l (name_bad kept) (name_good kept))
      ∙ at_line reason.Field line l.k l.line_of
  refuses_so reason.Depth line h =
      let some = h.0.0 in
      let kept = h.1 in
      let l = h.3 in
      depth_fault_lem (length rows) (column_fault text rows) (field_fault text rows) (depth_fault rows) (omega arith) h.0.1 (columns_fine kept) (none_twice kept h.2) l.k (lowest_found (shallow (entries 0 rows)) rows (TooDeep rows) line l (depth_bad kept) (depth_good kept))
      ∙ at_line reason.Depth line l.k l.line_of
