-- What a column holds.
use Rattle.std.specs.Prelude.{ℕ, Some, None, Option}
use Rattle.sheet_text.specs.declared.row.Span.{Span}
use Rattle.sheet_text.specs.declared.row.Column.{Column}
use Rattle.sheet_text.specs.declared.row.Column.TheVariants.{Blank, Number, Name}

-- the number in a column, if there is one
abbrev pub number_in : Column → Option ℕ
number_in (Number n) = Some n
number_in (Name s) = None
number_in Blank = None

-- the place of the name in a column, if there is one
abbrev pub span_in : Column → Option Span
span_in (Name s) = Some s
span_in (Number n) = None
span_in Blank = None
