use Rattle.std.proofs.Common.{subst}
use Rattle.balskif.specs.Calls.{listed, Written}
use Rattle.balskif.proofs.Bytes.{room_is}
use Rattle.balskif.proofs.lists.list_long.Goals as goal

pub returns : goal.returns
returns c = subst (λ k. Written (listed c.args.sheet.now k c.args.message.now) c.args.places.now c.list_by.result c.list_by.new.places) (room_is c.args.room _ _ c.requires) c.list_by.ensures
