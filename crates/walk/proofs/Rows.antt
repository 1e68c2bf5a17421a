-- What a row stands for, by its word.
use Rattle.std.proofs.Common.{◌≡◌, ℕ, true, List, Some, None, Option, sym, refl, ap, ◌∙◌, subst}
use Rattle.std.proofs.Common.{arith}
use Rattle.sheet.specs.Checks.{target, word_at, row_at}
use Rattle.sheet.specs.Fields.{name_in}
use Rattle.sheet.specs.Keeps.{AsAsked, Holds, LaterRow}
use Rattle.sheet.specs.Rules.{family_of, rule_of}
use Rattle.sheet.specs.Verdict.{lawful}
use Rattle.sheet.specs.declared.rule.Family.TheVariants as family
use Rattle.sheet.specs.declared.rule.Need.TheVariants as need
use Rattle.sheet.proofs.Keeping.{keeps}
use Rattle.sheet_text.specs.Plain.{ProperName}
use Rattle.sheet_text.specs.declared.row.Row.{Row}
use Rattle.sheet_text.specs.declared.row.Column.{Column}
use Rattle.sheet_text.specs.declared.word.Base.{Base}
use Rattle.sheet_text.specs.declared.word.Word.{Word}
use Rattle.sheet_text.specs.declared.word.Word.TheVariants as word
use Rattle.sheet_text.specs.declared.word.TypeWord.TheVariants as type
use Rattle.meaning.specs.Terms.{base, void, rec, arr, alt, none, fld}
use Rattle.meaning.specs.Forward.{Leads, LeadsOn, Forward}
use Rattle.meaning.specs.Stands.{type_by, fields_by, type_at, fields_at, number_at, truth_at}
use Rattle.laws.proofs.Checked.{checked_forward, later_ref, NoneOrLater}
use Rattle.laws.specs.Unfolds.{type_of, fields_of}
use Rattle.laws.proofs.Unfold.{type_unfolds, fields_unfold, fields_end}
use Rattle.walk.specs.Turns.{TypeRow, NoneOrField}
use Rattle.sheet_text.specs.Columns.{number_in}

field_word : (w : Word) → family_of w ≡ family.Field → w ≡ word.Field
field_word word.Field e = refl
field_word (word.Type w) e = absurd (let z : ◌≡◌ {A = ℕ} 0 1 = cc in omega arith)
field_word (word.Number w) e = absurd (let z : ◌≡◌ {A = ℕ} 0 1 = cc in omega arith)
field_word (word.Truth w) e = absurd (let z : ◌≡◌ {A = ℕ} 0 1 = cc in omega arith)
field_word word.From e = absurd (let z : ◌≡◌ {A = ℕ} 0 1 = cc in omega arith)
field_word (word.Step w) e = absurd (let z : ◌≡◌ {A = ℕ} 0 1 = cc in omega arith)

-- the name of a field
proper : (text : List ℕ) (rows : List Row) (k : ℕ) (c : Column) → Holds text rows k need.Name c
    → ProperName (name_in text c)
proper text rows k c h = subst (λ x. ProperName (name_in text x)) (sym h.1.0) h.1.1.proper

pub some_field : (rows : List Row) (k : ℕ) (o : Option ℕ) → NoneOrLater rows k family.Field o
    → NoneOrField rows o
some_field rows k None h = tt
some_field rows k (Some f) h = (h.exists, h.family)

module _ (text : List ℕ) (rows : List Row) (ok : lawful text rows ≡ true) (r : ℕ) (x : Row)
    (here : x ≡ row_at rows r) where
  forward : Forward rows
  forward = checked_forward text rows ok

  leads : LeadsOn rows r x
  leads = subst (LeadsOn rows r) (sym here) (forward r)

  type_row : (n : ℕ) → LaterRow rows r family.Type n → TypeRow rows n
  type_row n h = (h.exists, h.family)

  pub leads_as : (w : Word) → x.word ≡ w
      → Leads rows r (rule_of w).one x.one × Leads rows r (rule_of w).two x.two
      × Leads rows r (rule_of w).three x.three
  leads_as w e =
      subst (λ v. Leads rows r (rule_of v).one x.one × Leads rows r (rule_of v).two x.two
      × Leads rows r (rule_of v).three x.three) e (leads.one, leads.two, leads.three)

  is_type : (w : Word) → x.word ≡ w
      → type_at text rows r ≡ type_by text rows r w x (type_at text rows) (fields_at text rows)
      (number_at text rows) (truth_at text rows)
  is_type w e =
      type_unfolds text rows forward r
      ∙ ap (type_of text rows r) (sym here)
      ∙ ap (λ v. type_by text rows r v x (type_at text rows) (fields_at text rows)
      (number_at text rows) (truth_at text rows)) e

  pub is_base : (b : Base) → x.word ≡ word.Type (type.Base b) → type_at text rows r ≡ base r b
  is_base b e = is_type (word.Type (type.Base b)) e

  pub is_rec : x.word ≡ word.Type type.Rec
      → (type_at text rows r ≡ rec r (fields_at text rows (number_in x.one)))
      × NoneOrField rows (number_in x.one)
  is_rec e = (
    is_type (word.Type type.Rec) e,
    some_field rows r (number_in x.one)
        (later_ref rows r family.Field x.one (leads_as (word.Type type.Rec) e).0),
  )

  pub is_arr : x.word ≡ word.Type type.Arr
      → (type_at text rows r ≡ arr r (number_at text rows (target x.two))
      (type_at text rows (target x.one))) × TypeRow rows (target x.one)
  is_arr e =
      (is_type (word.Type type.Arr) e, type_row (target x.one) (leads_as (word.Type type.Arr) e).0)

  pub is_alt : x.word ≡ word.Type type.Alt
      → (type_at text rows r ≡ alt r (truth_at text rows (target x.one))
      (type_at text rows (target x.two)) (type_at text rows (target x.three)))
      × TypeRow rows (target x.two) × TypeRow rows (target x.three)
  is_alt e = let l = leads_as (word.Type type.Alt) e in
      (is_type (word.Type type.Alt) e, type_row (target x.two) l.1, type_row (target x.three) l.2)

  -- a row that is no base, record, array or alternative stands for void
  void_by : (w : Word) → ((b : Base) → ¬ (w ≡ word.Type (type.Base b))) → ¬ (w ≡ word.Type type.Rec)
      → ¬ (w ≡ word.Type type.Arr) → ¬ (w ≡ word.Type type.Alt)
      → type_by text rows r w x (type_at text rows) (fields_at text rows) (number_at text rows)
      (truth_at text rows) ≡ void r
  void_by (word.Type (type.Base b)) p q s t = absurd (p b refl)
  void_by (word.Type type.Void) p q s t = refl
  void_by (word.Type type.Rec) p q s t = absurd (q refl)
  void_by (word.Type type.Arr) p q s t = absurd (s refl)
  void_by (word.Type type.Alt) p q s t = absurd (t refl)
  void_by word.Field p q s t = refl
  void_by (word.Number w) p q s t = refl
  void_by (word.Truth w) p q s t = refl
  void_by word.From p q s t = refl
  void_by (word.Step w) p q s t = refl

  pub is_void : ((b : Base) → ¬ (x.word ≡ word.Type (type.Base b)))
      → ¬ (x.word ≡ word.Type type.Rec) → ¬ (x.word ≡ word.Type type.Arr)
      → ¬ (x.word ≡ word.Type type.Alt)
      → type_at text rows r ≡ void r
  is_void p q s t = is_type x.word refl ∙ void_by x.word p q s t

  pub is_field : NoneOrField rows (Some r)
      → (fields_at text rows (Some r)
      ≡ fld (name_in text x.name) (type_at text rows (target x.one))
      (fields_at text rows (number_in x.two)))
      × ProperName (name_in text x.name) × TypeRow rows (target x.one)
      × NoneOrField rows (number_in x.two)
  is_field h =
      let w : x.word ≡ word.Field = ap (λ (y : Row). y.word) here
      ∙ field_word (word_at rows r) h.1 in
      let l = leads_as word.Field w in
      let a = subst (λ (y : Row). AsAsked text rows r y) (sym here)
      ((keeps text rows ok).columns r h.0) in (
        fields_unfold text rows forward r ∙ ap (fields_of text rows) (sym here)
            ∙ ap (λ v. fields_by text rows v x (type_at text rows) (fields_at text rows)) w,
        proper text rows r x.name (subst (λ v. Holds text rows r (rule_of v).name x.name) w a.name),
        type_row (target x.one) l.0,
        some_field rows r (number_in x.two) (later_ref rows r family.Field x.two l.1),
      )

pub no_fields : (text : List ℕ) (rows : List Row) → lawful text rows ≡ true
    → fields_at text rows None ≡ none
no_fields text rows ok = fields_end text rows (checked_forward text rows ok)
