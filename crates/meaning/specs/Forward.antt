-- Where the references of a row lead.
use Rattle.std.specs.Prelude.{ℕ, List}
use Rattle.sheet.specs.Checks.{target, row_at}
use Rattle.sheet.specs.Keeps.{LaterRow}
use Rattle.sheet.specs.Rules.{rule_of}
use Rattle.sheet.specs.declared.rule.Family.{Family}
use Rattle.sheet.specs.declared.rule.Need.{Need}
use Rattle.sheet.specs.declared.rule.Need.TheVariants as need
use Rattle.sheet_text.specs.declared.row.Row.{Row}
use Rattle.sheet_text.specs.declared.row.Column.{Column}
use Rattle.sheet_text.specs.declared.row.Column.TheVariants as column

-- a column that is blank, or names a later row of the family
abbrev pub BlankOrLater : List Row → ℕ → Family → Column → Type 0
BlankOrLater rows k f column.Blank = Unit {0}
BlankOrLater rows k f (column.Number n) = LaterRow rows k f n
BlankOrLater rows k f (column.Name s) = ⊥

-- where a column of row k leads that has to hold a reference; any other leads nowhere
abbrev pub Leads : List Row → ℕ → Need → Column → Type 0
Leads rows k need.Blank c = Unit {0}
Leads rows k need.Name c = Unit {0}
Leads rows k need.Number c = Unit {0}
Leads rows k need.Climb c = Unit {0}
Leads rows k (need.Row f) c = LaterRow rows k f (target c)
Leads rows k (need.RowOrBlank f) c = BlankOrLater rows k f c

-- the references of row k lead to later rows of the families that its word asks for
pub record LeadsOn (rows : List Row) (k : ℕ) (r : Row) : Type 0 where
  pub one : Leads rows k (rule_of r.word).one r.one
  pub two : Leads rows k (rule_of r.word).two r.two
  pub three : Leads rows k (rule_of r.word).three r.three

abbrev pub Forward : List Row → Type 0
Forward rows = (r : ℕ) → LeadsOn rows r (row_at rows r)
