-- Every type of a sheet has a depth, and it is the one that was worked out.
use Rattle.std.proofs.Common.{◌≡◌, ℕ, zero, suc, ◌+◌, ◌<◌, ◌≤◌, max, ◌⊎◌, List, length, get_or, sym, refl, ap, ◌∙◌, subst, ⊎_elim, arith}
use Rattle.sheet_text.specs.declared.row.Row.{Row}
use Rattle.sheet_text.specs.declared.row.Column.{Column}
use Rattle.sheet_text.specs.declared.row.Column.TheVariants as column
use Rattle.sheet_text.specs.declared.word.Word.{Word}
use Rattle.sheet_text.specs.declared.word.Word.TheVariants as word
use Rattle.sheet_text.specs.declared.word.TypeWord.TheVariants as type
use Rattle.sheet.specs.Checks.{no_row, word_at}
use Rattle.sheet.specs.Keeps.{LaterRow, Names, Holds, AsAsked}
use Rattle.sheet.specs.Nests.{Depth, base, void, fieldless, fields, array, choice, Deepest, last, more}
use Rattle.sheet.specs.Rules.{family_of, rule_of}
use Rattle.sheet.specs.declared.rule.Family.{Family}
use Rattle.sheet.specs.declared.rule.Family.TheVariants as family
use Rattle.sheet.proofs.DepthLaws.{depth_at, by_word, no_fields, of_fields, of_element, of_choice, of_last, of_more}
use Rattle.sheet.proofs.FieldLaws.{field_word}

-- a column that names a later row, at the row that it is known to name
later_at : {rows : List Row} {k : ℕ} {f : Family} {c : Column} (n : ℕ) → Names rows k f c → c ≡ column.Number n → LaterRow rows k f n
later_at {rows} {k} {f} n h e = let g = h.1.0 in let same : h.0 ≡ n = cc in subst (LaterRow rows k f) same h.1.1

later_or_blank : {rows : List Row} {k : ℕ} {f : Family} {c : Column} (n : ℕ) → (c ≡ column.Blank) ⊎ Names rows k f c → c ≡ column.Number n → LaterRow rows k f n
later_or_blank n h e = ⊎_elim (λ b. let z : ◌≡◌ {A = ℕ} 0 1 = cc in absurd (omega arith)) (λ m. later_at n m e) h

module _ (text : List ℕ) (rows : List Row) (columns : (k : ℕ) → k < length rows → AsAsked text rows k (get_or rows k no_row)) where
  -- the columns of row k by its word
  module _ (k : ℕ) (h : k < length rows) (w : Word) (is : word_at rows k ≡ w) where
    one_of : Holds text rows k (rule_of w).one (get_or rows k no_row).one
    one_of = subst (λ v. Holds text rows k (rule_of v).one (get_or rows k no_row).one) is (columns k h).one

    two_of : Holds text rows k (rule_of w).two (get_or rows k no_row).two
    two_of = subst (λ v. Holds text rows k (rule_of v).two (get_or rows k no_row).two) is (columns k h).two

    three_of : Holds text rows k (rule_of w).three (get_or rows k no_row).three
    three_of = subst (λ v. Holds text rows k (rule_of v).three (get_or rows k no_row).three) is (columns k h).three

  -- from the depths of later rows to that of row k
  module _ (k : ℕ) (h : k < length rows) (types : (n : ℕ) → LaterRow rows k family.Type n → Depth rows n (depth_at rows n)) (chains : (n : ℕ) → LaterRow rows k family.Field n → Deepest rows n (depth_at rows n)) where
    type_here : (w : Word) → word_at rows k ≡ w → family_of w ≡ family.Type → Depth rows k (depth_at rows k)
    type_here (word.Type (type.Base b)) w f = subst (Depth rows k) (sym (by_word rows k h _ w)) (base w)
    type_here (word.Type type.Void) w f = subst (Depth rows k) (sym (by_word rows k h _ w)) (void w)
    type_here (word.Type type.Rec) w f =
        ⊎_elim
        (λ e. subst (Depth rows k) (sym (no_fields rows k h w e)) (fieldless w e))
        (λ c. subst (Depth rows k) (sym (of_fields rows k h c.0 w c.1.0 c.1.1.later)) (fields w c.1.0 (chains c.0 c.1.1)))
        (one_of k h _ w)
    type_here (word.Type type.Arr) w f =
        let c = one_of k h _ w in
        subst (Depth rows k) (sym (of_element rows k h c.0 w c.1.0 c.1.1.later)) (array w c.1.0 (types c.0 c.1.1))
    type_here (word.Type type.Alt) w f =
        let a = two_of k h _ w in
        let b = three_of k h _ w in
        subst (Depth rows k) (sym (of_choice rows k h a.0 b.0 w a.1.0 b.1.0 a.1.1.later b.1.1.later))
        (choice w a.1.0 b.1.0 (types a.0 a.1.1) (types b.0 b.1.1))
    type_here word.Field w f = let z : ◌≡◌ {A = ℕ} 0 1 = cc in absurd (omega arith)
    type_here (word.Number v) w f = let z : ◌≡◌ {A = ℕ} 0 1 = cc in absurd (omega arith)
    type_here (word.Truth v) w f = let z : ◌≡◌ {A = ℕ} 0 1 = cc in absurd (omega arith)
    type_here word.From w f = let z : ◌≡◌ {A = ℕ} 0 1 = cc in absurd (omega arith)
    type_here (word.Step v) w f = let z : ◌≡◌ {A = ℕ} 0 1 = cc in absurd (omega arith)

    chain_here : word_at rows k ≡ word.Field → Deepest rows k (depth_at rows k)
    chain_here w =
        let a = one_of k h _ w in
        ⊎_elim
        (λ e. subst (Deepest rows k) (sym (of_last rows k h a.0 w a.1.0 e a.1.1.later)) (last w a.1.0 e (types a.0 a.1.1)))
        (λ b. subst (Deepest rows k) (sym (of_more rows k h a.0 b.0 w a.1.0 b.1.0 a.1.1.later b.1.1.later))
        (more w a.1.0 b.1.0 (types a.0 a.1.1) (chains b.0 b.1.1)))
        (two_of k h _ w)

  -- rows from the last to the first, at most m of them
  mutual
    type_depth : (m k : ℕ) → k < length rows → length rows ≤ m + k → family_of (word_at rows k) ≡ family.Type → Depth rows k (depth_at rows k)
    type_depth zero k h g f = absurd (omega arith)
    type_depth (suc m) k h g f =
        type_here k h (λ n l. type_depth m n l.exists (omega (arith, l.later)) l.family) (λ n l. chain_depth m n l.exists (omega (arith, l.later)) l.family) _ refl f

    chain_depth : (m k : ℕ) → k < length rows → length rows ≤ m + k → family_of (word_at rows k) ≡ family.Field → Deepest rows k (depth_at rows k)
    chain_depth zero k h g f = absurd (omega arith)
    chain_depth (suc m) k h g f =
        chain_here k h (λ n l. type_depth m n l.exists (omega (arith, l.later)) l.family) (λ n l. chain_depth m n l.exists (omega (arith, l.later)) l.family) (field_word _ f)

  pub has_depth : (k : ℕ) → k < length rows → family_of (word_at rows k) ≡ family.Type → Depth rows k (depth_at rows k)
  has_depth k h f = type_depth (length rows) k h (omega arith) f

  -- there is no other
  mutual
    pub depth_one : {k d : ℕ} → Depth rows k d → k < length rows → d ≡ depth_at rows k
    depth_one (base {k} w) h = sym (by_word rows k h _ w)
    depth_one (void {k} w) h = sym (by_word rows k h _ w)
    depth_one (fieldless {k} w e) h = sym (no_fields rows k h w e)
    depth_one (fields {k} {n} w e f) h =
        let l = later_or_blank n (one_of k h _ w) e in
        ap (λ d. d + 1) (deepest_one f l.exists) ∙ sym (of_fields rows k h n w e l.later)
    depth_one (array {k} {n} w e f) h =
        let l = later_at n (one_of k h _ w) e in
        ap (λ d. d + 1) (depth_one f l.exists) ∙ sym (of_element rows k h n w e l.later)
    depth_one (choice {k} {m} {n} {d} w e f a b) h =
        let l = later_at m (two_of k h _ w) e in
        let g = later_at n (three_of k h _ w) f in
        ap (max d) (depth_one b g.exists) ∙ ap (λ x. max x (depth_at rows n)) (depth_one a l.exists) ∙ sym (of_choice rows k h m n w e f l.later g.later)

    pub deepest_one : {k d : ℕ} → Deepest rows k d → k < length rows → d ≡ depth_at rows k
    deepest_one (last {k} {n} w e f a) h =
        let l = later_at n (one_of k h _ w) e in
        depth_one a l.exists ∙ sym (of_last rows k h n w e f l.later)
    deepest_one (more {k} {m} {n} {d} w e f a b) h =
        let l = later_at n (one_of k h _ w) e in
        let g = later_or_blank m (two_of k h _ w) f in
        ap (max d) (deepest_one b g.exists) ∙ ap (λ x. max x (depth_at rows m)) (depth_one a l.exists) ∙ sym (of_more rows k h n m w e f l.later g.later)
