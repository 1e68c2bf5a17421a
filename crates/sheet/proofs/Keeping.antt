-- Rows have no fault exactly where they keep every rule.
use Rattle.std.proofs.Common.{◌≡◌, ℕ, zero, suc, ◌+◌, ◌<◌, ◌≤◌, Bool, true, false, cond, not, ◌&&◌, ◌||◌, ltb, List, [], ◌∷◌, length, get_or, Some, None, refl, ap, ◌∙◌, subst, arith, le-ltb, lt-ltb}
use Rattle.sheet_text.specs.declared.row.Row.{Row}
use Rattle.sheet_text.specs.declared.word.Word.{Word}
use Rattle.sheet_text.specs.declared.word.Word.TheVariants as word
use Rattle.sheet_text.specs.declared.word.TypeWord.TheVariants as type
use Rattle.std.proofs.lemmas.Bool.{false≢true, or_left, or_right}
use Rattle.sheet.specs.Rules.{family_of}
use Rattle.sheet.specs.Checks.{no_row, word_at, same_family, keeps_rule, first_failing}
use Rattle.sheet.specs.Fields.{is_record, fields_differ}
use Rattle.sheet.specs.Depths.{entries, shallow}
use Rattle.sheet.specs.Verdict.{column_fault, field_fault, depth_fault, verdict, lawful}
use Rattle.sheet.specs.Keeps.{AsAsked, Keeps}
use Rattle.sheet.specs.declared.rule.Family.TheVariants as family
use Rattle.sheet.proofs.Families.{same_is, same_from}
use Rattle.sheet.proofs.ColumnLaws.{kept_is, kept_from}
use Rattle.sheet.proofs.FieldLaws.{names_apart, apart_from, names_differ}
use Rattle.sheet.proofs.DepthLaws.{depth_at, depth_limit}
use Rattle.sheet.proofs.Depths.{has_depth, depth_one}
use Rattle.sheet.proofs.Faults.{no_fault}
use Rattle.sheet.proofs.Lawful.{some_rows, few_rows, row_kept}

-- rows without a fault keep every rule
pub keeps : (text : List ℕ) (rows : List Row) → lawful text rows ≡ true → Keeps text rows
keeps text rows ok =
    let columns : (k : ℕ) → k < length rows → AsAsked text rows k (get_or rows k no_row) = λ k h. (kept_is text rows k (get_or rows k no_row) (row_kept text rows ok k h)).0 in
    let any = some_rows text rows ok in
    record {
      some = omega arith;
      few = few_rows text rows ok;
      first = same_is _ family.Type (kept_is text rows 0 (get_or rows 0 no_row) (row_kept text rows ok 0 any)).1;
      columns = columns;
      names = λ k h w. names_apart text rows columns k h w (names_differ text rows ok k h w);
      depths = λ k h f. (depth_at rows k, (has_depth text rows columns k h f, depth_limit text rows ok k h (same_from _ family.Type f)));
    }

-- where each row passes a test, none fails it
none_fails : (p : ℕ → Row → Bool) (k : ℕ) (rs : List Row) → ((i : ℕ) → i < length rs → p (k + i) (get_or rs i no_row) ≡ true) → first_failing p k rs ≡ None
none_fails p k [] h = refl
none_fails p k (r ∷ rs) h =
    let here : p k r ≡ true = let same : k ≡ k + 0 = omega arith in ap (λ n. p n r) same ∙ h 0 (omega arith) in
    ap (λ t. cond t (first_failing p (k + 1) rs) (Some k)) here
    ∙ none_fails p (k + 1) rs (λ i l. let same : k + 1 + i ≡ k + suc i = omega arith in ap (λ n. p n (get_or rs i no_row)) same ∙ h (suc i) (omega arith))

pub all_pass : (p : ℕ → Row → Bool) (rows : List Row) → ((k : ℕ) → k < length rows → p k (get_or rows k no_row) ≡ true) → first_failing p 0 rows ≡ None
all_pass p rows h = none_fails p 0 rows (λ i l. let same : 0 + i ≡ i = omega arith in ap (λ n. p n (get_or rows i no_row)) same ∙ h i l)

pub record_word : (w : Word) → is_record w ≡ true → w ≡ word.Type type.Rec
record_word (word.Type type.Rec) e = refl
record_word (word.Type (type.Base b)) e = absurd (false≢true e)
record_word (word.Type type.Void) e = absurd (false≢true e)
record_word (word.Type type.Arr) e = absurd (false≢true e)
record_word (word.Type type.Alt) e = absurd (false≢true e)
record_word word.Field e = absurd (false≢true e)
record_word (word.Number w) e = absurd (false≢true e)
record_word (word.Truth w) e = absurd (false≢true e)
record_word word.From e = absurd (false≢true e)
record_word (word.Step w) e = absurd (false≢true e)

module _ (text : List ℕ) (rows : List Row) (kept : Keeps text rows) where
  first_or_later : (k : ℕ) → (ltb 0 k || same_family (family_of (word_at rows k)) family.Type) ≡ true
  first_or_later zero = or_right (ltb 0 0) _ (same_from _ family.Type kept.first)
  first_or_later (suc k) = or_left (ltb 0 (suc k)) _ (lt-ltb 0 (suc k) (omega arith))

  columns_fine : column_fault text rows ≡ None
  columns_fine = all_pass (keeps_rule text rows) rows (λ k h. kept_from text rows k (get_or rows k no_row) (kept.columns k h) (first_or_later k))

  field_fine : (k : ℕ) → k < length rows → (t : Bool) → is_record (word_at rows k) ≡ t → fields_differ text rows (get_or rows k no_row) ≡ true
  field_fine k h true e = or_right (not (is_record (word_at rows k))) _ (apart_from text rows k (kept.names k h (record_word _ e)))
  field_fine k h false e = or_left (not (is_record (word_at rows k))) _ (ap not e)

  fields_fine : field_fault text rows ≡ None
  fields_fine = all_pass (λ k r. fields_differ text rows r) rows (λ k h. field_fine k h _ refl)

  depth_fine : (k : ℕ) → k < length rows → (t : Bool) → same_family (family_of (word_at rows k)) family.Type ≡ t → shallow (entries 0 rows) k (get_or rows k no_row) ≡ true
  depth_fine k h true e =
      let d = kept.depths k h (same_is _ family.Type e) in
      let is = depth_one text rows kept.columns d.1.0 h in
      let low : depth_at rows k ≤ 8 = subst (λ n. n ≤ 8) is d.1.1 in
      ap (λ t. not (t && ltb 8 (depth_at rows k))) e ∙ ap not (le-ltb 8 (depth_at rows k) low)
  depth_fine k h false e = ap (λ t. not (t && ltb 8 (depth_at rows k))) e

  depths_fine : depth_fault rows ≡ None
  depths_fine = all_pass (shallow (entries 0 rows)) rows (λ k h. depth_fine k h _ refl)

  -- rows that keep every rule have no fault
  pub no_verdict : verdict text rows ≡ None
  unfolding verdict
  no_verdict = let some = kept.some in no_fault (length rows) _ _ _ (omega arith) kept.few columns_fine fields_fine depths_fine
