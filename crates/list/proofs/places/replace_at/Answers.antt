use Rattle.std.proofs.Common.{rules}
use Rattle.std.proofs.lemmas.Bool.{lt-ltb}
use Rattle.list.proofs.Fronts.{take_set_any, nth_front_read}
use Rattle.list.proofs.places.replace_at.Goals as goal

pub returns : goal.returns
returns g c = search (rules, lt-ltb, take_set_any, nth_front_read)
