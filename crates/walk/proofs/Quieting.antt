-- What is found quiet, by the row's word.
use Rattle.std.proofs.Common.{◌≡◌, ℕ, suc, ◌+◌, ◌-◌, ◌*◌, ◌<◌, ◌≤◌, Bool, true, false, cond}
use Rattle.std.proofs.Common.{List, ◌∷◌, ◌++◌, length, take, drop, Some, None, Ok, Err, sym}
use Rattle.std.proofs.Common.{ap, ◌∙◌, subst, arith}
use Rattle.std.proofs.lemmas.List.{take-append-drop, length-take-le}
use Rattle.sheet.specs.Checks.{target, row_at}
use Rattle.sheet.specs.Fields.{name_in}
use Rattle.sheet.specs.Sheets.{rows_of, text_of}
use Rattle.sheet.specs.declared.checked.CheckedSheet.{CheckedSheet}
use Rattle.sheet.specs.declared.rule.Family.TheVariants as family
use Rattle.sheet_text.specs.declared.row.Row.{Row}
use Rattle.sheet_text.specs.declared.word.Word.TheVariants as word
use Rattle.sheet_text.specs.declared.word.TypeWord.TheVariants as type
use Rattle.meaning.specs.Terms.{Path, PieceSpec, Ty, alt, fld, Truth}
use Rattle.meaning.specs.Stands.{type_at, fields_at, number_at, truth_at, fields_by}
use Rattle.meaning.specs.Values.{Outcome, number, truth, Message}
use Rattle.laws.specs.Quiet.{far, far_truth, Quiet, rec', arr₀, arr', alt', QuietFields, none'}
use Rattle.laws.specs.Quiet.{fld'}
use Rattle.laws.proofs.Checked.{checked_forward, later_ref}
use Rattle.laws.specs.Unfolds.{fields_of}
use Rattle.laws.proofs.Unfold.{fields_unfold}
use Rattle.evaluate.proofs.Measures.{from}
use Rattle.evaluate.proofs.Places.{few, from_falls}
use Rattle.walk.specs.Walks.{needed_value, counted}
use Rattle.walk.specs.Quieted.{QuietRow, QuietRest}
use Rattle.walk.proofs.Opens.{number_is}
use Rattle.walk.proofs.Rows.{leads_as, is_rec, is_arr, is_alt, no_fields}
use Rattle.sheet_text.specs.Columns.{number_in}

needed_is : {V : Type 0} (x : Outcome V) (v : V) → needed_value x ≡ Ok v → x ≡ Ok v
needed_is (Ok w) v e = let s : w ≡ v = cc in ap Ok s
needed_is (Err f) v e = absurd (let z : ◌≡◌ {A = ℕ} 0 1 = cc in omega arith)

-- the records outside stay, where one more is opened inside
pub outside_same : (P : Path) (O R : List Path) (k : ℕ) → R ≡ P ∷ O → drop (k + 1) R ≡ drop k O
outside_same P O R k e = ap (drop (k + 1)) e
    ∙ (let s : k + 1 ≡ suc k = omega arith in ap (λ j. drop j (P ∷ O)) s)

module _ (s : CheckedSheet) (message : Message) (A : List PieceSpec) (O : List Path) (k : ℕ)
    (inside : k ≤ length O) (r : ℕ) (x : Row) (here : x ≡ row_at (rows_of s) r) where
  as_row : (τ : Ty) → type_at (text_of s) (rows_of s) r ≡ τ → Quiet message A (drop k O) k τ
      → QuietRow s message A O k r
  as_row τ e q = subst (Quiet message A (drop k O) k) (sym e) q

  all : take k O ++ drop k O ≡ O
  all = take-append-drop k O

  front : length (take k O) ≡ k
  front = length-take-le k O inside

  pub rec_quiet : x.word ≡ word.Type type.Rec → (P : Path) (R : List Path) (j : ℕ) → R ≡ P ∷ O
      → j ≡ suc k → QuietRest s message A R j (number_in x.one) → QuietRow s message A O k r
  rec_quiet w P R j e f q =
      as_row _ (is_rec (text_of s) (rows_of s) s.ok r x here w).0
      (rec' (subst
      (λ i. QuietFields message A (drop i (P ∷ O)) i
      (fields_at (text_of s) (rows_of s) (number_in x.one))) f
      (subst (λ L. QuietFields message A (drop j L) j
      (fields_at (text_of s) (rows_of s) (number_in x.one))) e q)))

  pub arr_none : x.word ≡ word.Type type.Arr
      → far k (number_at (text_of s) (rows_of s) (target x.two)) ≡ true → (d : ℕ) → d ≡ 0
      → counted (number message A O (number_at (text_of s) (rows_of s) (target x.two))) ≡ Ok d
      → QuietRow s message A O k r
  arr_none w h d z c =
      let n = number_at (text_of s) (rows_of s) (target x.two) in
      let (y, is, some) = number_is (number message A O n) d c in
      as_row _ (is_arr (text_of s) (rows_of s) s.ok r x here w).0
      (arr₀ {z = y} (take k O) front h (ap (λ R. number message A R n) all ∙ is) (some ∙ ap Some z))

  pub arr_quiet : x.word ≡ word.Type type.Arr
      → far k (number_at (text_of s) (rows_of s) (target x.two)) ≡ true → (d : ℕ)
      → counted (number message A O (number_at (text_of s) (rows_of s) (target x.two))) ≡ Ok d
      → QuietRow s message A O k (target x.one) → QuietRow s message A O k r
  arr_quiet w h d c q =
      let n = number_at (text_of s) (rows_of s) (target x.two) in
      let (y, is, some) = number_is (number message A O n) d c in
      as_row _ (is_arr (text_of s) (rows_of s) s.ok r x here w).0
      (arr' {z = y} (take k O) front h (ap (λ R. number message A R n) all ∙ is) some q)

  alt_row : (τ σ : Ty) (t : Truth) (b : Bool) → type_at (text_of s) (rows_of s) r ≡ alt r t τ σ
      → far_truth k t ≡ true → truth message A O t ≡ Ok b
      → Quiet message A (drop k O) k (cond b τ σ) → QuietRow s message A O k r
  alt_row τ σ t true e h v q = as_row _ e
      (alt' {b = true} (take k O) front h (ap (λ R. truth message A R t) all ∙ v) q)
  alt_row τ σ t false e h v q = as_row _ e
      (alt' {b = false} (take k O) front h (ap (λ R. truth message A R t) all ∙ v) q)

  pick_row : (b : Bool) (m n : ℕ) → QuietRow s message A O k (cond b m n)
      → Quiet message A (drop k O) k
      (cond b (type_at (text_of s) (rows_of s) m) (type_at (text_of s) (rows_of s) n))
  pick_row true m n q = q
  pick_row false m n q = q

  pub alt_quiet : x.word ≡ word.Type type.Alt
      → far_truth k (truth_at (text_of s) (rows_of s) (target x.one)) ≡ true → (b : Bool)
      → needed_value (truth message A O (truth_at (text_of s) (rows_of s) (target x.one))) ≡ Ok b
      → QuietRow s message A O k (cond b (target x.two) (target x.three))
      → QuietRow s message A O k r
  alt_quiet w h b c q =
      alt_row _ _ (truth_at (text_of s) (rows_of s) (target x.one)) b
      (is_alt (text_of s) (rows_of s) s.ok r x here w).0 h (needed_is _ b c)
      (pick_row b (target x.two) (target x.three) q)

module _ (s : CheckedSheet) (r : ℕ) (x : Row) (here : x ≡ row_at (rows_of s) r) where
  -- a field, and those behind it
  pub field_is : x.word ≡ word.Field
      → fields_at (text_of s) (rows_of s) (Some r)
      ≡ fld (name_in (text_of s) x.name) (type_at (text_of s) (rows_of s) (target x.one))
      (fields_at (text_of s) (rows_of s) (number_in x.two))
  field_is w =
      fields_unfold (text_of s) (rows_of s) (checked_forward (text_of s) (rows_of s) s.ok) r
      ∙ ap (fields_of (text_of s) (rows_of s)) (sym here)
      ∙ ap (λ v. fields_by (text_of s) (rows_of s) v x (type_at (text_of s) (rows_of s))
      (fields_at (text_of s) (rows_of s))) w

  pub field_quiet : (message : Message) (A : List PieceSpec) (O : List Path) (k : ℕ)
      → x.word ≡ word.Field
      → QuietRow s message A O k (target x.one) → QuietRest s message A O k (number_in x.two)
      → QuietRest s message A O k (Some r)
  field_quiet message A O k w q f =
      subst (QuietFields message A (drop k O) k) (sym (field_is w)) (fld' q f)

  -- what a row refers to is later
  pub fields_fall : x.word ≡ word.Type type.Rec → from 256 (number_in x.one) < 3 * (256 - r) + 1
  fields_fall w =
      from_falls (rows_of s) r family.Field (number_in x.one) (few s)
      (later_ref (rows_of s) r family.Field x.one
      (leads_as (text_of s) (rows_of s) s.ok r x here (word.Type type.Rec) w).0)

  pub next_falls : x.word ≡ word.Field → from 256 (number_in x.two) < 3 * (256 - r) + 1
  next_falls w =
      from_falls (rows_of s) r family.Field (number_in x.two) (few s)
      (later_ref (rows_of s) r family.Field x.two
      (leads_as (text_of s) (rows_of s) s.ok r x here word.Field w).1)

  abbrev pub Falls : ℕ → Type 0
  Falls n = 3 * (256 - n) + 2 < 3 * (256 - r) + 1

  pub type_falls : x.word ≡ word.Field → Falls (target x.one)
  type_falls w = let l = (leads_as (text_of s) (rows_of s) s.ok r x here word.Field w).0 in
      omega (arith, l.later, l.exists, few s)

  pub element_falls : x.word ≡ word.Type type.Arr → Falls (target x.one)
  element_falls w = let l =
      (leads_as (text_of s) (rows_of s) s.ok r x here (word.Type type.Arr) w).0 in
      omega (arith, l.later, l.exists, few s)

  pub chosen_falls : x.word ≡ word.Type type.Alt → (b : Bool)
      → Falls (cond b (target x.two) (target x.three))
  chosen_falls w true = let l =
      (leads_as (text_of s) (rows_of s) s.ok r x here (word.Type type.Alt) w).1 in
      omega (arith, l.later, l.exists, few s)
  chosen_falls w false = let l =
      (leads_as (text_of s) (rows_of s) s.ok r x here (word.Type type.Alt) w).2 in
      omega (arith, l.later, l.exists, few s)

pub none_quiet : (s : CheckedSheet) (message : Message) (A : List PieceSpec) (O : List Path) (k : ℕ)
    → QuietRest s message A O k None
none_quiet s message A O k = subst (QuietFields message A (drop k O) k)
    (sym (no_fields (text_of s) (rows_of s) s.ok)) none'
