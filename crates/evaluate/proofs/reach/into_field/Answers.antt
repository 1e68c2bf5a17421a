use Rattle.std.proofs.Common.{rules}
use Rattle.evaluate.proofs.Reached.{push_unfit, no_name}
use Rattle.evaluate.proofs.reach.into_field.Goals as goal

pub returns-in_err-new : goal.returns-in_err-new
returns-in_err-new c = search (rules, push_unfit, no_name)
