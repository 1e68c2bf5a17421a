use Rattle.std.proofs.Common.{arith}
use Rattle.sheet.specs.Sheets.{rows_of, text_of}
use Rattle.sheet.proofs.Lawful.{few_rows}
use Rattle.walk.proofs.walker.Walker.next_elements.Goals as goal

pub bases-requires-clause-row : goal.bases-requires-clause-row
bases-requires-clause-row g c =
    let s = c.args.self.now.sheet.now in
    omega (arith, few_rows (text_of s) (rows_of s) s.ok, c.requires.shallow.0.3.0)
