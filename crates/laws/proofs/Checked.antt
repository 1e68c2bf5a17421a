-- The references of a checked sheet lead to later rows of the right families.
use Rattle.std.proofs.Common.{◌≡◌, ℕ, ◌<◌, ◌≤◌, true, List, length, Some, None, Option, sym, subst}
use Rattle.std.proofs.Common.{⊎_elim}
use lib.ListN.{get_or-eq_default}
use Rattle.std.proofs.lemmas.Bool.{cases_lt}
use Rattle.sheet.specs.Checks.{target, no_row, row_at}
use Rattle.sheet.specs.Keeps.{LaterRow, Names, Holds, AsAsked}
use Rattle.sheet.specs.Verdict.{lawful}
use Rattle.sheet.specs.declared.rule.Family.{Family}
use Rattle.sheet.specs.declared.rule.Need.{Need}
use Rattle.sheet.specs.declared.rule.Need.TheVariants as need
use Rattle.sheet_text.specs.declared.row.Row.{Row}
use Rattle.sheet_text.specs.declared.row.Column.{Column}
use Rattle.sheet_text.specs.declared.row.Column.TheVariants as column
use Rattle.sheet.proofs.Keeping.{keeps}
use Rattle.meaning.specs.Forward.{BlankOrLater, Leads, LeadsOn, Forward}
use Rattle.sheet_text.specs.Columns.{number_in}

module _ (text : List ℕ) (rows : List Row) (k : ℕ) where
  names : (f : Family) (c : Column) → Names rows k f c → LaterRow rows k f (target c)
  names f c h = subst (λ x. LaterRow rows k f (target x)) (sym h.1.0) h.1.1

  leads : (n : Need) (c : Column) → Holds text rows k n c → Leads rows k n c
  leads need.Blank c h = tt
  leads need.Name c h = tt
  leads need.Number c h = tt
  leads need.Climb c h = tt
  leads (need.Row f) c h = names f c h
  leads (need.RowOrBlank f) c h =
      ⊎_elim (λ (e : c ≡ column.Blank). subst (BlankOrLater rows k f) (sym e) tt)
      (λ (h : Names rows k f c). subst (BlankOrLater rows k f) (sym h.1.0) h.1.1)
      h

  leads_on : (r : Row) → AsAsked text rows k r → LeadsOn rows k r
  leads_on r h =
      record {
        one = leads _ r.one h.one;
        two = leads _ r.two h.two;
        three =
            leads _ r.three h.three;
      }

  nowhere : LeadsOn rows k no_row
  nowhere = record { one = tt; two = tt; three = tt }

pub checked_forward : (text : List ℕ) (rows : List Row) → lawful text rows ≡ true → Forward rows
checked_forward text rows ok r =
    ⊎_elim (λ (h : r < length rows).
    leads_on text rows r (row_at rows r) ((keeps text rows ok).columns r h))
    (λ (h : length rows ≤ r). subst (LeadsOn rows r) (sym (get_or-eq_default rows no_row h))
    (nowhere text rows r))
    (cases_lt r (length rows))

-- a reference that leads to a row of the family, or to none
abbrev pub NoneOrLater : List Row → ℕ → Family → Option ℕ → Type 0
NoneOrLater rows k f None = Unit {0}
NoneOrLater rows k f (Some n) = LaterRow rows k f n

pub later_ref : (rows : List Row) (k : ℕ) (f : Family) (c : Column) → BlankOrLater rows k f c
    → NoneOrLater rows k f (number_in c)
later_ref rows k f column.Blank h = tt
later_ref rows k f (column.Number n) h = h
later_ref rows k f (column.Name s) h = absurd h
