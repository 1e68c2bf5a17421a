use Rattle.reading.proofs.Naming.{unnamed_first, named_first}
use Rattle.reading.proofs.finding.kept_piece.Goals as goal

pub returns-in_default-clause-value : goal.returns-in_default-clause-value
returns-in_default-clause-value c = unnamed_first c.args.count c.args.pieces.now c.args.path.now c.in_default.ensures.every

pub returns-clause-value : goal.returns-clause-value
returns-clause-value c =
    named_first c.args.count c.args.pieces.now _ c.args.path.now c.in-Some.path c.find_piece.result c.ok.result
    c.in-Some.ensures.only c.in-Some.ensures.every c.holding-kept.ensures.contents c.find_piece.ensures.value c.ok.ensures.value
