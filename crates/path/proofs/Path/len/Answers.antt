use Rattle.path.proofs.Laws.{lawful_path}
use Rattle.path.proofs.Path.len.Goals as goal

pub returns-clause-lawful : goal.returns-clause-lawful
returns-clause-lawful c = lawful_path c.args.self.now
