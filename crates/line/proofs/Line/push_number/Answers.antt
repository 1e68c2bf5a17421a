use Rattle.std.proofs.Common.{arith}
use Rattle.line.proofs.Numerals.{writes_decimal}
use Rattle.line.proofs.Line.push_number.Goals as goal

pub returns-clause-numeral : goal.returns-clause-numeral
returns-clause-numeral c = writes_decimal c.args.n (omega arith)
