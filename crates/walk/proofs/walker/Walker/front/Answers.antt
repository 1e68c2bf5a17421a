use Rattle.std.proofs.Common.{arith}
use Rattle.sheet.specs.Sheets.{rows_of, text_of}
use Rattle.sheet.proofs.Lawful.{few_rows}
use Rattle.walk.proofs.walker.Walker.front.Goals as goal

pub overflow_cast-result : goal.overflow_cast-result
overflow_cast-result g c =
    let s = c.args.self.now.sheet.now in
    omega (arith, few_rows (text_of s) (rows_of s) s.ok, c.requires.shallow.0.3.0)
