use Rattle.std.proofs.Common.{None, rules}
use Rattle.sheet_text.proofs.Decimals.{read}
use Rattle.sheet_text.proofs.token.read_number.Goals as goal

pub returns-in-empty-clause-printed : goal.returns-in-empty-clause-printed
returns-in-empty-clause-printed c = read c.args.bytes.now None (search rules)

pub returns-in-empty-2-clause-printed : goal.returns-in-empty-2-clause-printed
returns-in-empty-2-clause-printed c = read c.args.bytes.now None (search rules)

pub returns-in_default-clause-printed : goal.returns-in_default-clause-printed
returns-in_default-clause-printed c = read c.args.bytes.now _ (search rules)
