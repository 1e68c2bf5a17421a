-- What the columns of a row may hold, by its word.
use Rattle.sheet.specs.declared.rule.Family.{Family}
use Rattle.sheet.specs.declared.rule.Family.TheVariants as family
use Rattle.sheet.specs.declared.rule.Need.{Need}
use Rattle.sheet.specs.declared.rule.Need.TheVariants as need
use Rattle.sheet.specs.declared.rule.Rule.{Rule}
use Rattle.sheet_text.specs.declared.word.Word.{Word}
use Rattle.sheet_text.specs.declared.word.Word.TheVariants as word
use Rattle.sheet_text.specs.declared.word.TypeWord.TheVariants as type
use Rattle.sheet_text.specs.declared.word.NumberWord.TheVariants as number
use Rattle.sheet_text.specs.declared.word.TruthWord.TheVariants as truth
use Rattle.sheet_text.specs.declared.word.StepWord.TheVariants as step

abbrev pub family_of : Word → Family
family_of (word.Type w) = family.Type
family_of word.Field = family.Field
family_of (word.Number w) = family.Number
family_of (word.Truth w) = family.Truth
family_of word.From = family.From
family_of (word.Step w) = family.Step

abbrev pub rule_two : Need → Need → Rule
rule_two a b = record { name = need.Blank; one = a; two = b; three = need.Blank }

abbrev pub rule_one : Need → Rule
rule_one a = rule_two a need.Blank

abbrev pub rule_none : Rule
rule_none = rule_one need.Blank

abbrev pub rule_of : Word → Rule
rule_of (word.Type (type.Base b)) = rule_none
rule_of (word.Type type.Void) = rule_none
rule_of (word.Type type.Rec) = rule_one (need.RowOrBlank family.Field)
rule_of (word.Type type.Arr) = rule_two (need.Row family.Type) (need.Row family.Number)
rule_of (word.Type type.Alt) = record { name = need.Blank; one = need.Row family.Truth; two = need.Row family.Type; three = need.Row family.Type }
rule_of word.Field = record { name = need.Name; one = need.Row family.Type; two = need.RowOrBlank family.Field; three = need.Blank }
rule_of (word.Number number.Lit) = rule_one need.Number
rule_of (word.Number number.Loc) = rule_one (need.Row family.From)
rule_of (word.Number number.Add) = rule_two (need.Row family.Number) (need.Row family.Number)
rule_of (word.Number number.Mul) = rule_two (need.Row family.Number) (need.Row family.Number)
rule_of (word.Truth truth.True) = rule_none
rule_of (word.Truth truth.False) = rule_none
rule_of (word.Truth truth.Bloc) = rule_one (need.Row family.From)
rule_of (word.Truth truth.Not) = rule_one (need.Row family.Truth)
rule_of (word.Truth truth.And) = rule_two (need.Row family.Truth) (need.Row family.Truth)
rule_of (word.Truth truth.Or) = rule_two (need.Row family.Truth) (need.Row family.Truth)
rule_of (word.Truth truth.Eq) = rule_two (need.Row family.Number) (need.Row family.Number)
rule_of (word.Truth truth.Lt) = rule_two (need.Row family.Number) (need.Row family.Number)
rule_of word.From = rule_two need.Climb (need.RowOrBlank family.Step)
rule_of (word.Step step.Dot) = record { name = need.Name; one = need.RowOrBlank family.Step; two = need.Blank; three = need.Blank }
rule_of (word.Step step.Idx) = rule_two (need.Row family.Number) (need.RowOrBlank family.Step)
