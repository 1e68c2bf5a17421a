use Rattle.path.proofs.Parses.{element_by}
use Rattle.path.proofs.parse.element_of.Goals as goal

pub returns : goal.returns
returns c =
    let n = c.in_ok-read_number in
    element_by c.new.result n.field-0 c.args.digits.now n.ensures.printed.0 n.ensures.printed.1 c.new.ensures
