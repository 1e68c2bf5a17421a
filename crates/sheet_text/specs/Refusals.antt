-- The refusals of a sheet as they are told.
use Rattle.std.specs.Prelude.{ℕ, ◌+◌, Some}
use Rattle.told.specs.declared.Told.{Told}
use Rattle.told.specs.Answers.{bare}
use Rattle.sheet_text.specs.declared.refusal.Reason.{Reason}
use Rattle.sheet_text.specs.declared.refusal.Reason.TheVariants as reason
use Rattle.sheet_text.specs.declared.refusal.SheetRefusal.{SheetRefusal}

-- the number of a refusal
abbrev pub number_of : Reason → ℕ
number_of reason.Header = 1
number_of reason.Line = 2
number_of reason.Word = 3
number_of reason.Column = 4
number_of reason.Field = 5
number_of reason.Count = 6
number_of reason.Depth = 7

-- a refusal carries its line and nothing else
abbrev pub sheet_told : SheetRefusal → Told
sheet_told e = record (bare (number_of e.reason)) { line = Some e.line }

-- the refusal of the line that states row k
abbrev pub at_row : Reason → ℕ → SheetRefusal
at_row e k = record { reason = e; line = k + 2 }
