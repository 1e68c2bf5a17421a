-- What a placer's answer says.
use Rattle.std.specs.Prelude.{Some, None, Option, Ok, Err, Result}
use Rattle.meaning.specs.declared.fault.LayFault.{LayFault}

-- why a piece was not taken, if it was not
abbrev pub bar_of : Result (Unit {0}) LayFault → Option LayFault
bar_of (Ok u) = None
bar_of (Err e) = Some e
