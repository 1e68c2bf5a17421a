-- The depth of a row's term is the depth that the sheet was checked for.
use Rattle.std.proofs.Common.{◌≡◌, ℕ, zero, suc, ◌+◌, ◌<◌, ◌≤◌, max, List, length, drop, Some, None}
use Rattle.std.proofs.Common.{Option, sym, refl, ap, ◌∙◌, ap₂, arith}
use Rattle.sheet.specs.Checks.{target, word_at, same_family, row_at}
use Rattle.sheet.specs.Depths.{depth_in, record_depth, shape_of, depth_as, entries}
use Rattle.sheet.specs.Rules.{family_of, rule_of}
use Rattle.sheet.specs.declared.rule.Family.TheVariants as family
use Rattle.sheet_text.specs.declared.row.Row.{Row}
use Rattle.sheet_text.specs.declared.row.Column.{Column}
use Rattle.sheet_text.specs.declared.row.Column.TheVariants as column
use Rattle.sheet_text.specs.declared.word.Word.{Word}
use Rattle.sheet_text.specs.declared.word.Word.TheVariants as word
use Rattle.sheet_text.specs.declared.word.TypeWord.TheVariants as type
use Rattle.sheet.proofs.DepthLaws.{depth_at, depth_is, depth_limit, reads}
use Rattle.meaning.specs.Terms.{Num, Truth, Ty, Fields, none}
use Rattle.meaning.specs.Forward.{BlankOrLater, Leads, Forward}
use Rattle.sheet.specs.Keeps.{LaterRow}
use Rattle.meaning.specs.Stands.{type_by, fields_by, type_at, fields_at, number_at, truth_at}
use Rattle.laws.specs.Nesting.{depth, depth_fields}
use Rattle.laws.specs.Laws.{TypesShallow}
use Rattle.laws.proofs.Checked.{checked_forward}
use Rattle.laws.proofs.Unfold.{type_unfolds, fields_unfold, fields_end}
use Rattle.sheet_text.specs.Columns.{number_in}

module _ (text : List ℕ) (rows : List Row) (k : ℕ) (T : ℕ → Ty) (F : Option ℕ → Fields)
    (N : ℕ → Num) (B : ℕ → Truth)
    (ends : F None ≡ none)
    (types : (j : ℕ) → LaterRow rows k family.Type j → depth (T j) ≡ depth_at rows j)
    (fields : (j : ℕ) → LaterRow rows k family.Field j
    → depth_fields (F (Some j)) ≡ suc (depth_at rows j)) where
  later : List ℕ
  later = drop (k + 1) (entries 0 rows)

  read : (c : Column) → k < target c
      → depth_in k (drop (k + 1) (entries 0 rows)) c ≡ depth_at rows (target c)
  read c h = reads (entries 0 rows) k c h

  rec_depth : (a : Column) → BlankOrLater rows k family.Field a
      → depth_fields (F (number_in a))
      ≡ record_depth a (depth_in k (drop (k + 1) (entries 0 rows)) a)
  rec_depth column.Blank h = ap depth_fields ends
  rec_depth (column.Number n) h =
      let e = read (column.Number n) h.later in
      fields n h
      ∙ (let s : suc (depth_at rows n)
      ≡ depth_in k (drop (k + 1) (entries 0 rows)) (column.Number n) + 1 = omega (arith, e) in
      s)
  rec_depth (column.Name s) h = absurd h

  type_row : (r : Row) (w : Word) → family_of w ≡ family.Type
      → Leads rows k (rule_of w).one r.one → Leads rows k (rule_of w).two r.two
      → Leads rows k (rule_of w).three r.three
      → depth (type_by text rows k w r T F N B)
      ≡ depth_as (shape_of w) k r (drop (k + 1) (entries 0 rows))
  type_row r (word.Type (type.Base b)) f p q s = refl
  type_row r (word.Type type.Void) f p q s = refl
  type_row r (word.Type type.Rec) f p q s = rec_depth r.one p
  type_row r (word.Type type.Arr) f p q s =
      let e = read r.one p.later in
      let t = types (target r.one) p in
      omega (arith, e, t)
  type_row r (word.Type type.Alt) f p q s =
      ap₂ max (types (target r.two) q ∙ sym (read r.two q.later))
      (types (target r.three) s ∙ sym (read r.three s.later))
  type_row r word.Field f p q s = absurd (let z : ◌≡◌ {A = ℕ} 0 1 = cc in omega arith)
  type_row r (word.Number w) f p q s = refl
  type_row r (word.Truth w) f p q s = refl
  type_row r word.From f p q s = refl
  type_row r (word.Step w) f p q s = refl

  next_depth : (b : Column) → BlankOrLater rows k family.Field b → (d x : ℕ) → d ≡ x
      → max (suc d) (depth_fields (F (number_in b)))
      ≡ suc (max x (depth_in k (drop (k + 1) (entries 0 rows)) b))
  next_depth column.Blank h d x e = let z = ap depth_fields ends in omega (arith, z, e)
  next_depth (column.Number n) h d x e =
      let z = fields n h in
      let y = read (column.Number n) h.later in
      omega (arith, z, y, e)
  next_depth (column.Name s) h d x e = absurd h

  field_row : (r : Row) (w : Word) → family_of w ≡ family.Field
      → Leads rows k (rule_of w).one r.one → Leads rows k (rule_of w).two r.two
      → depth_fields (fields_by text rows w r T F)
      ≡ suc (depth_as (shape_of w) k r (drop (k + 1) (entries 0 rows)))
  field_row r word.Field f p q = next_depth r.two q _ _
      (types (target r.one) p ∙ sym (read r.one p.later))
  field_row r (word.Type w) f p q = absurd (let z : ◌≡◌ {A = ℕ} 0 1 = cc in omega arith)
  field_row r (word.Number w) f p q = absurd (let z : ◌≡◌ {A = ℕ} 0 1 = cc in omega arith)
  field_row r (word.Truth w) f p q = absurd (let z : ◌≡◌ {A = ℕ} 0 1 = cc in omega arith)
  field_row r word.From f p q = absurd (let z : ◌≡◌ {A = ℕ} 0 1 = cc in omega arith)
  field_row r (word.Step w) f p q = absurd (let z : ◌≡◌ {A = ℕ} 0 1 = cc in omega arith)

module _ (text : List ℕ) (rows : List Row) (forward : Forward rows) where
  mutual
    pub type_depth : (m k : ℕ) → k < length rows → length rows ≤ m + k
        → family_of (word_at rows k) ≡ family.Type → depth (type_at text rows k) ≡ depth_at rows k
    type_depth zero k h g f = absurd (omega arith)
    type_depth (suc m) k h g f =
        ap depth (type_unfolds text rows forward k)
        ∙ type_row text rows k (type_at text rows) (fields_at text rows) (number_at text rows)
        (truth_at text rows) (fields_end text rows forward)
        (λ j b. type_depth m j b.exists (omega (arith, b.later)) b.family)
        (λ j b. fields_depth m j b.exists (omega (arith, b.later)) b.family)
        (row_at rows k) (word_at rows k) f (forward k).one (forward k).two (forward k).three
        ∙ sym (depth_is rows k h)

    pub fields_depth : (m k : ℕ) → k < length rows → length rows ≤ m + k
        → family_of (word_at rows k) ≡ family.Field
        → depth_fields (fields_at text rows (Some k)) ≡ suc (depth_at rows k)
    fields_depth zero k h g f = absurd (omega arith)
    fields_depth (suc m) k h g f =
        ap depth_fields (fields_unfold text rows forward k)
        ∙ field_row text rows k (type_at text rows) (fields_at text rows) (number_at text rows)
        (truth_at text rows) (fields_end text rows forward)
        (λ j b. type_depth m j b.exists (omega (arith, b.later)) b.family)
        (λ j b. fields_depth m j b.exists (omega (arith, b.later)) b.family)
        (row_at rows k) (word_at rows k) f (forward k).one (forward k).two
        ∙ ap suc (sym (depth_is rows k h))

pub types_shallow : TypesShallow
types_shallow text rows ok k h f =
    let e = type_depth text rows (checked_forward text rows ok) (length rows) k h (omega arith) f in
    let l = depth_limit text rows ok k h (ap (λ x. same_family x family.Type) f) in
    omega (arith, e, l)
