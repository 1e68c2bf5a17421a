-- The fields of each record of a checked sheet have different names.
use Rattle.std.proofs.Common.{◌≡◌, ℕ, zero, suc, ◌+◌, ◌<◌, ◌≤◌, Bool, true, false, not, ◌&&◌, ◌||◌}
use Rattle.std.proofs.Common.{List, [], ◌∷◌, length, Some, sym, refl, ap, ◌∙◌, subst, arith}
use Rattle.std.specs.Str.{bytes_eq}
use Rattle.std.proofs.lemmas.Slice.Eq.{bytes_eq-Decides}
use Rattle.std.proofs.lemmas.Bool.{cond-true, lt-ltb}
use Rattle.sheet.specs.Checks.{target, word_at, row_at}
use Rattle.sheet.specs.Fields.{name_in, where_some, chain_names, member, distinct}
use Rattle.sheet.specs.Rules.{family_of, rule_of}
use Rattle.sheet.specs.Verdict.{lawful}
use Rattle.sheet.specs.declared.rule.Family.TheVariants as family
use Rattle.sheet_text.specs.declared.row.Row.{Row}
use Rattle.sheet_text.specs.declared.row.Column.{Column}
use Rattle.sheet_text.specs.declared.row.Column.TheVariants as column
use Rattle.sheet_text.specs.declared.word.Word.{Word}
use Rattle.sheet_text.specs.declared.word.Word.TheVariants as word
use Rattle.sheet_text.specs.declared.word.TypeWord.TheVariants as type
use Rattle.sheet.proofs.FieldLaws.{names_differ, field_word}
use Rattle.meaning.specs.Terms.{Name, Fields, none, fld}
use Rattle.meaning.specs.Forward.{BlankOrLater, Leads, Forward}
use Rattle.sheet.specs.Keeps.{LaterRow}
use Rattle.meaning.specs.Stands.{type_by, fields_by, type_at, fields_at, number_at, truth_at}
use Rattle.laws.proofs.Named.{Fresh, Named, NamedFields}
use Rattle.laws.specs.Laws.{PathsDiffer}
use Rattle.laws.specs.Stops.{PathsDifferAhead}
use Rattle.laws.proofs.Apart
use Rattle.sheet.proofs.Lawful.{some_rows}
use Rattle.laws.proofs.Checked.{checked_forward}
use Rattle.laws.proofs.Unfold.{type_unfolds, fields_unfold, fields_end}
use Rattle.sheet_text.specs.Columns.{number_in}

abbrev field_names : Fields → List Name
field_names none = []
field_names (fld n τ fs) = n ∷ field_names fs

neither : (a b : Bool) → (a || b) ≡ false → (a ≡ false) × (b ≡ false)
neither false b e = (refl, e)
neither true b e = absurd (let z : ◌≡◌ {A = ℕ} 0 1 = cc in omega arith)

apart : (a b : Bool) → (not a && b) ≡ true → (a ≡ false) × (b ≡ true)
apart false b e = (refl, e)
apart true b e = absurd (let z : ◌≡◌ {A = ℕ} 0 1 = cc in omega arith)

fresh : (n : Name) (fs : Fields) → member n (field_names fs) ≡ false → Fresh n fs
fresh n none e = tt
fresh n (fld m τ fs) e =
    let p = neither (bytes_eq n m) (member n (field_names fs)) e in (
      (λ (s : n ≡ m).
          let t : bytes_eq n m ≡ true = (bytes_eq-Decides n m).1 s in
          let z : ◌≡◌ {A = ℕ} 0 1 = cc p.0 in absurd (omega arith)),
      fresh n fs p.1,
    )

module _ (text : List ℕ) (rows : List Row) (ok : lawful text rows ≡ true) where
  forward : Forward rows
  forward = checked_forward text rows ok

  -- a field row
  field_is : (j : ℕ) → family_of (word_at rows j) ≡ family.Field
      → fields_at text rows (Some j)
      ≡ fld (name_in text (row_at rows j).name) (type_at text rows (target (row_at rows j).one))
      (fields_at text rows (number_in (row_at rows j).two))
  field_is j f =
      fields_unfold text rows forward j
      ∙ ap (λ w. fields_by text rows w (row_at rows j) (type_at text rows) (fields_at text rows))
      (field_word (word_at rows j) f)

  field_type : (j : ℕ) → family_of (word_at rows j) ≡ family.Field
      → LaterRow rows j family.Type (target (row_at rows j).one)
  field_type j f = subst (λ w. Leads rows j (rule_of w).one (row_at rows j).one)
      (field_word (word_at rows j) f) (forward j).one

  field_next : (j : ℕ) → family_of (word_at rows j) ≡ family.Field
      → BlankOrLater rows j family.Field (row_at rows j).two
  field_next j f = subst (λ w. Leads rows j (rule_of w).two (row_at rows j).two)
      (field_word (word_at rows j) f) (forward j).two

  -- the names of a chain of fields are those of the fields that it stands for
  chain_is : (m k : ℕ) (c : Column) → length rows ≤ m + suc k → BlankOrLater rows k family.Field c
      → chain_names m text rows c ≡ field_names (fields_at text rows (number_in c))
  unfolding chain_names
  chain_is zero k column.Blank g h = sym (ap field_names (fields_end text rows forward))
  chain_is (suc m) k column.Blank g h = sym (ap field_names (fields_end text rows forward))
  chain_is m k (column.Name s) g h = absurd h
  chain_is zero k (column.Number n) g h = absurd (omega (arith, h.later, h.exists))
  chain_is (suc m) k (column.Number n) g h =
      ap (λ o. where_some o (λ f. name_in text f.name ∷ chain_names m text rows f.two))
      (cond-true _ _ _ (lt-ltb n (length rows) h.exists))
      ∙ ap (λ ns. name_in text (row_at rows n).name ∷ ns)
      (chain_is m n (row_at rows n).two (omega (arith, h.later)) (field_next n h.family))
      ∙ sym (ap field_names (field_is n h.family))

  module _ (k : ℕ) (types : (j : ℕ) → LaterRow rows k family.Type j → Named (type_at text rows j))
    where
      -- the fields from a column on, of which the types are named and the names differ
      fields_named : (m j : ℕ) (c : Column) → k ≤ j → length rows ≤ m + suc j
          → BlankOrLater rows j family.Field c
          → distinct (field_names (fields_at text rows (number_in c))) ≡ true
          → NamedFields (fields_at text rows (number_in c))
      fields_named m j column.Blank l g h d =
          subst NamedFields (sym (fields_end text rows forward)) tt
      fields_named m j (column.Name s) l g h d = absurd h
      fields_named zero j (column.Number n) l g h d = absurd (omega (arith, h.later, h.exists))
      fields_named (suc m) j (column.Number n) l g h d =
          let is = field_is n h.family in
          let τ = field_type n h.family in
          let rest = fields_at text rows (number_in (row_at rows n).two) in
          let a = apart (member (name_in text (row_at rows n).name) (field_names rest))
          (distinct (field_names rest)) (sym (ap (λ fs. distinct (field_names fs)) is) ∙ d) in
          subst NamedFields (sym is) (
            types (target (row_at rows n).one)
                (record {
                  later = omega (arith, h.later, τ.later);
                  exists = τ.exists;
                  family =
                      τ.family;
                }),
            fresh _ rest a.0,
            fields_named m n (row_at rows n).two (omega (arith, h.later)) (omega (arith, h.later))
                (field_next n h.family) a.1,
          )

      type_row : k < length rows → (w : Word) → word_at rows k ≡ w
          → Leads rows k (rule_of w).one (row_at rows k).one
          → Leads rows k (rule_of w).two (row_at rows k).two
          → Leads rows k (rule_of w).three (row_at rows k).three
          → Named (type_by text rows k w (row_at rows k) (type_at text rows) (fields_at text rows)
          (number_at text rows) (truth_at text rows))
      type_row h (word.Type (type.Base b)) e p q s = tt
      type_row h (word.Type type.Void) e p q s = tt
      type_row h (word.Type type.Rec) e p q s =
          fields_named (length rows) k (row_at rows k).one (omega arith) (omega arith) p
          (sym (ap distinct (chain_is (length rows) k (row_at rows k).one (omega arith) p))
          ∙ names_differ text rows ok k h e)
      type_row h (word.Type type.Arr) e p q s = types _ p
      type_row h (word.Type type.Alt) e p q s = (types _ q, types _ s)
      type_row h word.Field e p q s = tt
      type_row h (word.Number w) e p q s = tt
      type_row h (word.Truth w) e p q s = tt
      type_row h word.From e p q s = tt
      type_row h (word.Step w) e p q s = tt

  pub type_named : (m k : ℕ) → k < length rows → length rows ≤ m + k → Named (type_at text rows k)
  type_named zero k h g = absurd (omega arith)
  type_named (suc m) k h g =
      subst Named (sym (type_unfolds text rows forward k))
      (type_row k (λ j b. type_named m j b.exists (omega (arith, b.later))) h (word_at rows k) refl
      (forward k).one (forward k).two (forward k).three)

pub paths_differ : PathsDiffer
paths_differ text rows cells T ok r =
    Apart.distinct r
    (type_named text rows ok (length rows) 0 (some_rows text rows ok) (omega arith))

pub paths_differ_ahead : PathsDifferAhead
paths_differ_ahead text rows cells room e r A ok h =
    Apart.distinct_stop h
    (type_named text rows ok (length rows) 0 (some_rows text rows ok) (omega arith))
