use Rattle.std.proofs.Common.{◌≡◌, subst}
use Rattle.told.specs.Answers.{as_told}
use Rattle.balskif.specs.Calls.{itself, number_of, put_told, Altered, Refuses}
use Rattle.balskif.proofs.Bytes.{room_is}
use Rattle.balskif.proofs.puts.put_long.Goals as goal

pub returns-clause-told : goal.returns-clause-told
returns-clause-told c =
    subst (λ k. as_told itself c.put_by.result ≡ put_told c.args.sheet.now c.args.message.now k c.args.path.now c.args.value.now)
    (room_is c.args.room _ _ c.requires) c.put_by.ensures.told

pub returns-clause-altered : goal.returns-clause-altered
returns-clause-altered c =
    subst (λ k. Altered c.args.sheet.now c.args.message.now k c.args.path.now c.args.value.now (number_of (as_told itself c.put_by.result)) c.put_by.new.message)
    (room_is c.args.room _ _ c.requires) c.put_by.ensures.altered

pub returns-clause-refuses : goal.returns-clause-refuses
returns-clause-refuses c =
    subst (λ k. Refuses c.args.sheet.now c.args.message.now k c.args.path.now c.args.value.now (number_of (as_told itself c.put_by.result)))
    (room_is c.args.room _ _ c.requires) c.put_by.ensures.refuses
