-- The tests of columns, and what they say.
use Rattle.std.proofs.Common.{◌≡◌, ℕ, ◌-◌, true, ◌||◌, ltb, List, length, refl, ap, ◌∙◌, inl, inr, ⊎_elim, arith, ltb-true, lt-ltb, le-leb, leb-true}
use Rattle.sheet_text.specs.declared.row.Row.{Row}
use Rattle.sheet_text.specs.declared.row.Span.{Span}
use Rattle.sheet_text.specs.declared.row.Column.{Column}
use Rattle.sheet_text.specs.declared.row.Column.TheVariants as column
use Rattle.std.proofs.lemmas.Bool.{false≢true, and_parts, and_from, or_left, or_right}
use Rattle.sheet_text.proofs.Plain.{name_is, name_made}
use Rattle.sheet.specs.Rules.{family_of}
use Rattle.sheet.specs.Checks.{refers, is_blank, is_named, names_part, is_numeric, is_climb, meets, keeps_rule, same_family}
use Rattle.sheet.specs.Keeps.{NameInside, Names, Holds, AsAsked}
use Rattle.sheet.specs.declared.rule.Family.{Family}
use Rattle.sheet.specs.declared.rule.Family.TheVariants as family
use Rattle.sheet.specs.declared.rule.Need.{Need}
use Rattle.sheet.specs.declared.rule.Need.TheVariants as need
use Rattle.sheet.proofs.Families.{same_is, same_from}

module _ (text : List ℕ) (s : Span) where
  named_is : names_part text s ≡ true → NameInside text s
  named_is e =
      let p = and_parts _ _ e in
      let q = and_parts _ _ p.1 in
      let a = leb-true s.at (length text) p.0 in
      let b = leb-true s.len (length text - s.at) q.0 in
      record { inside = omega arith; proper = name_is _ q.1 }

  named_from : NameInside text s → names_part text s ≡ true
  named_from h =
      let i = h.inside in
      and_from _ _ (le-leb s.at (length text) (omega arith)) (and_from _ _ (le-leb s.len (length text - s.at) (omega arith)) (name_made _ h.proper))

module _ (rows : List Row) (k : ℕ) (f : Family) where
  names_is : (c : Column) → refers rows k f c ≡ true → Names rows k f c
  names_is (column.Number n) e =
      let p = and_parts _ _ e in
      let q = and_parts _ _ p.1 in
      (n, (refl, record { later = ltb-true k n p.0; exists = ltb-true n (length rows) q.0; family = same_is _ f q.1 }))
  names_is (column.Name s) e = absurd (false≢true e)
  names_is column.Blank e = absurd (false≢true e)

  names_from : (c : Column) → Names rows k f c → refers rows k f c ≡ true
  names_from c h =
      let l = h.1.1 in
      ap (refers rows k f) h.1.0
      ∙ and_from _ _ (lt-ltb k h.0 l.later) (and_from _ _ (lt-ltb h.0 (length rows) l.exists) (same_from _ f l.family))

module _ (text : List ℕ) (rows : List Row) (k : ℕ) where
  pub holds_is : (w : Need) (c : Column) → meets text rows k w c ≡ true → Holds text rows k w c
  holds_is need.Blank column.Blank e = refl
  holds_is need.Blank (column.Number n) e = absurd (false≢true e)
  holds_is need.Blank (column.Name s) e = absurd (false≢true e)
  holds_is need.Name column.Blank e = absurd (false≢true e)
  holds_is need.Name (column.Number n) e = absurd (false≢true e)
  holds_is need.Name (column.Name s) e = (s, (refl, named_is text s e))
  holds_is need.Number column.Blank e = absurd (false≢true e)
  holds_is need.Number (column.Number n) e = (n, (refl, leb-true n _ e))
  holds_is need.Number (column.Name s) e = absurd (false≢true e)
  holds_is need.Climb column.Blank e = absurd (false≢true e)
  holds_is need.Climb (column.Number n) e = (n, (refl, leb-true n _ e))
  holds_is need.Climb (column.Name s) e = absurd (false≢true e)
  holds_is (need.Row f) c e = names_is rows k f c e
  holds_is (need.RowOrBlank f) column.Blank e = inl refl
  holds_is (need.RowOrBlank f) (column.Number n) e = inr (names_is rows k f (column.Number n) e)
  holds_is (need.RowOrBlank f) (column.Name s) e = absurd (false≢true e)

  pub holds_from : (w : Need) (c : Column) → Holds text rows k w c → meets text rows k w c ≡ true
  holds_from need.Blank c h = ap is_blank h
  holds_from need.Name c h = ap (is_named text) h.1.0 ∙ named_from text h.0 h.1.1
  holds_from need.Number c h = ap is_numeric h.1.0 ∙ le-leb h.0 _ h.1.1
  holds_from need.Climb c h = ap is_climb h.1.0 ∙ le-leb h.0 _ h.1.1
  holds_from (need.Row f) c h = names_from rows k f c h
  holds_from (need.RowOrBlank f) c h =
      ⊎_elim (λ e. or_left (is_blank c) (refers rows k f c) (ap is_blank e)) (λ n. or_right (is_blank c) (refers rows k f c) (names_from rows k f c n)) h

  pub kept_is : (r : Row) → keeps_rule text rows k r ≡ true → AsAsked text rows k r × ((ltb 0 k || same_family (family_of r.word) family.Type) ≡ true)
  kept_is r e =
      let a = and_parts _ _ e in
      let b = and_parts _ _ a.1 in
      let c = and_parts _ _ b.1 in
      let d = and_parts _ _ c.1 in
      (record { name = holds_is _ r.name a.0; one = holds_is _ r.one b.0; two = holds_is _ r.two c.0; three = holds_is _ r.three d.0 }, d.1)

  pub kept_from : (r : Row) → AsAsked text rows k r → (ltb 0 k || same_family (family_of r.word) family.Type) ≡ true → keeps_rule text rows k r ≡ true
  kept_from r h z =
      and_from _ _ (holds_from _ r.name h.name) (and_from _ _ (holds_from _ r.one h.one) (and_from _ _ (holds_from _ r.two h.two) (and_from _ _ (holds_from _ r.three h.three) z)))
