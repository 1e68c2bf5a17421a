use Rattle.balskif.proofs.Reading.{fill_is, sheet_is}
use Rattle.balskif.proofs.sheets.read.Goals as goal

pub returns : goal.returns
returns c =
    sheet_is c.args.text.now c.args.table.now c.read_sheet.new.table c.requires c.in_ok-n.n c.in_ok-n.ensures.reads
    c.in_ok-n.ensures.result c.in_ok-n.ensures.rows c.fill.new.self
    (fill_is _ _ c.in_ok-fill.field-0 _ _ _ c.in_ok-fill.ensures.result c.fill.ensures.text)
    (fill_is _ _ c.in_ok-fill.field-0 _ _ _ c.in_ok-fill.ensures.result c.fill.ensures.rows)
