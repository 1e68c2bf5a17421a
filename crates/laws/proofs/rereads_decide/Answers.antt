use Rattle.laws.proofs.Rereads.{reread_decides}
use Rattle.laws.proofs.rereads_decide.Goals as goal

pub returns : goal.returns
returns c = reread_decides
