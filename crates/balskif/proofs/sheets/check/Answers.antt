use Rattle.std.proofs.Common.{refl}
use Rattle.balskif.proofs.Reading.{checked_is}
use Rattle.balskif.proofs.sheets.check.Goals as goal

pub returns-clause-checks : goal.returns-clause-checks
returns-clause-checks c = checked_is c.args.text.now _ c.read_sheet.new.table refl c.read_sheet.result c.read_sheet.ensures.reads
