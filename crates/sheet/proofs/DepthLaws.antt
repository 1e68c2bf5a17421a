-- How the depths of rows hang together, for the layers above.
use Rattle.std.proofs.Common.{◌≡◌, ℕ, zero, suc, ◌+◌, ◌<◌, ◌≤◌, max, Bool, true, false, not, ◌&&◌, ltb, List, [], ◌∷◌, length, get_or, drop, sym, refl, ap, ◌∙◌, arith, ltb-false}
use Rattle.sheet.specs.Checks.{no_row, word_at, target, same_family}
use Rattle.sheet.specs.Rules.{family_of}
use Rattle.sheet.specs.Verdict.{lawful}
use Rattle.sheet.specs.Depths.{depth_in, record_depth, shape_of, depth_as, row_depth, entries, shallow}
use Rattle.sheet_text.specs.declared.row.Row.{Row}
use Rattle.sheet_text.specs.declared.row.Column.{Column}
use Rattle.sheet_text.specs.declared.row.Column.TheVariants as column
use Rattle.sheet.specs.declared.rule.Family.TheVariants as family
use Rattle.sheet_text.specs.declared.word.Word.{Word}
use Rattle.sheet_text.specs.declared.word.Word.TheVariants as word
use Rattle.sheet_text.specs.declared.word.TypeWord.TheVariants as type
use Rattle.sheet.proofs.Nesting.{entry_later}
use Rattle.sheet.proofs.Lawful.{each_passes, depths_kept}

off : (t : Bool) → not t ≡ true → t ≡ false
off true e = sym e
off false e = refl

-- the depth of row k
abbrev pub depth_at : List Row → ℕ → ℕ
depth_at rows k = get_or (entries 0 rows) k 0

at_row : (j : ℕ) (rs : List Row) (i : ℕ) → i < length rs → get_or (entries j rs) i 0 ≡ row_depth (j + i) (get_or rs i no_row) (drop (i + 1) (entries j rs))
unfolding entries
at_row j [] i h = absurd (omega arith)
at_row j (r ∷ rs) zero h =
    let same : j ≡ j + 0 = omega arith in
    ap (λ n. row_depth n r (entries (j + 1) rs)) same
at_row j (r ∷ rs) (suc i) h =
    let same : j + 1 + i ≡ j + suc i = omega arith in
    let more : i + 1 ≡ suc i = omega arith in
    let less : suc i + 1 ≡ suc (suc i) = omega arith in
    at_row (j + 1) rs i (omega arith)
    ∙ ap (λ n. row_depth n (get_or rs i no_row) (drop (i + 1) (entries (j + 1) rs))) same
    ∙ ap (λ n. row_depth (j + suc i) (get_or rs i no_row) (drop n (entries (j + 1) rs))) more
    ∙ sym (ap (λ n. row_depth (j + suc i) (get_or rs i no_row) (drop n (entries j (r ∷ rs)))) less)

-- the depth of row k by the later entries
pub depth_is : (rows : List Row) (k : ℕ) → k < length rows → depth_at rows k ≡ row_depth k (get_or rows k no_row) (drop (k + 1) (entries 0 rows))
depth_is rows k h =
    let same : 0 + k ≡ k = omega arith in
    at_row 0 rows k h ∙ ap (λ n. row_depth n (get_or rows k no_row) (drop (k + 1) (entries 0 rows))) same

-- a reference to a later row reads its depth
pub reads : (ds : List ℕ) (k : ℕ) (c : Column) → k < target c → depth_in k (drop (k + 1) ds) c ≡ get_or ds (target c) 0
reads ds k (column.Number n) h = sym (entry_later ds k n h)
reads ds k (column.Name s) h = absurd (omega arith)
reads ds k column.Blank h = absurd (omega arith)

-- a column that names a later row reads its depth
read_at : (ds : List ℕ) (k : ℕ) (c : Column) (n : ℕ) → c ≡ column.Number n → k < n → depth_in k (drop (k + 1) ds) c ≡ get_or ds n 0
read_at ds k c n e h = ap (depth_in k (drop (k + 1) ds)) e ∙ sym (entry_later ds k n h)

-- the depth of row k by those of its parts
module _ (rows : List Row) (k : ℕ) (h : k < length rows) where
  pub by_word : (w : Word) → word_at rows k ≡ w → depth_at rows k ≡ depth_as (shape_of w) k (get_or rows k no_row) (drop (k + 1) (entries 0 rows))
  by_word w e = depth_is rows k h ∙ ap (λ v. depth_as (shape_of v) k (get_or rows k no_row) (drop (k + 1) (entries 0 rows))) e

  pub no_fields : word_at rows k ≡ word.Type type.Rec → (get_or rows k no_row).one ≡ column.Blank → depth_at rows k ≡ 0
  no_fields w e = by_word _ w ∙ ap (λ c. record_depth c (depth_in k (drop (k + 1) (entries 0 rows)) (get_or rows k no_row).one)) e

  pub of_fields : (n : ℕ) → word_at rows k ≡ word.Type type.Rec → (get_or rows k no_row).one ≡ column.Number n → k < n → depth_at rows k ≡ depth_at rows n + 1
  of_fields n w e l =
      by_word _ w ∙ ap (λ c. record_depth c (depth_in k (drop (k + 1) (entries 0 rows)) (get_or rows k no_row).one)) e
      ∙ ap (λ d. d + 1) (read_at (entries 0 rows) k _ n e l)

  pub of_element : (n : ℕ) → word_at rows k ≡ word.Type type.Arr → (get_or rows k no_row).one ≡ column.Number n → k < n → depth_at rows k ≡ depth_at rows n + 1
  of_element n w e l = by_word _ w ∙ ap (λ d. d + 1) (read_at (entries 0 rows) k _ n e l)

  pub of_choice : (m n : ℕ) → word_at rows k ≡ word.Type type.Alt → (get_or rows k no_row).two ≡ column.Number m → (get_or rows k no_row).three ≡ column.Number n → k < m → k < n → depth_at rows k ≡ max (depth_at rows m) (depth_at rows n)
  of_choice m n w e f l g =
      by_word _ w ∙ ap (λ d. max d (depth_in k (drop (k + 1) (entries 0 rows)) (get_or rows k no_row).three)) (read_at (entries 0 rows) k _ m e l)
      ∙ ap (max (depth_at rows m)) (read_at (entries 0 rows) k _ n f g)

  pub of_last : (n : ℕ) → word_at rows k ≡ word.Field → (get_or rows k no_row).one ≡ column.Number n → (get_or rows k no_row).two ≡ column.Blank → k < n → depth_at rows k ≡ depth_at rows n
  of_last n w e f l =
      let none : max (depth_at rows n) 0 ≡ depth_at rows n = omega arith in
      by_word _ w ∙ ap (λ d. max d (depth_in k (drop (k + 1) (entries 0 rows)) (get_or rows k no_row).two)) (read_at (entries 0 rows) k _ n e l)
      ∙ ap (λ c. max (depth_at rows n) (depth_in k (drop (k + 1) (entries 0 rows)) c)) f ∙ none

  pub of_more : (n m : ℕ) → word_at rows k ≡ word.Field → (get_or rows k no_row).one ≡ column.Number n → (get_or rows k no_row).two ≡ column.Number m → k < n → k < m → depth_at rows k ≡ max (depth_at rows n) (depth_at rows m)
  of_more n m w e f l g =
      by_word _ w ∙ ap (λ d. max d (depth_in k (drop (k + 1) (entries 0 rows)) (get_or rows k no_row).two)) (read_at (entries 0 rows) k _ n e l)
      ∙ ap (max (depth_at rows n)) (read_at (entries 0 rows) k _ m f g)

-- no type of a sheet nests more than eight deep
pub depth_limit : (text : List ℕ) (rows : List Row) → lawful text rows ≡ true → (k : ℕ) → k < length rows → same_family (family_of (word_at rows k)) family.Type ≡ true → depth_at rows k ≤ 8
depth_limit text rows ok k h f =
    let same : 0 + k ≡ k = omega arith in
    let passes : shallow (entries 0 rows) (0 + k) (get_or rows k no_row) ≡ true = each_passes (shallow (entries 0 rows)) 0 rows (depths_kept text rows ok) k h in
    let here : not (ltb 8 (depth_at rows k)) ≡ true = sym (ap (λ t. not (t && ltb 8 (depth_at rows k))) f) ∙ sym (ap (λ n. shallow (entries 0 rows) n (get_or rows k no_row)) same) ∙ passes in
    ltb-false 8 (depth_at rows k) (off (ltb 8 (depth_at rows k)) here)
