-- What calls and answers of the program stand for.
use Rattle.std.specs.Prelude.{Some, None, Ok, Err, Result}
use Rattle.reading.specs.declared.answers.Answer.{Answer}
use Rattle.reading.specs.declared.answers.Answer.TheVariants as answer
use Rattle.reading.specs.declared.answers.Call.{Call}
use Rattle.reading.specs.declared.answers.Call.TheVariants as call
use Rattle.reading.specs.declared.answers.Found.{Found}
use Rattle.reading.specs.declared.refusals.FindRefusal.{FindRefusal}
use Rattle.reading.specs.declared.refusals.PutRefusal.{PutRefusal}
use Rattle.reading.specs.declared.answers.Cover.{Cover}
use Rattle.reading.specs.declared.refusals.LayRefusal.{LayRefusal}
use Rattle.reading.specs.Refusals.{lay_refusal_told, find_told, put_told}
use Rattle.reading.specs.Steps.{Asked, lay, lift, on, find, put}
use Rattle.reading.specs.Steps.{Said, covers, finds, accepts, lifts, refuses}

abbrev pub asked : Call → Asked
asked call.Lay = lay
asked (call.Find path) = on path.now find
asked (call.Put path bytes) = on path.now (put bytes.now)
asked call.Lift = lift

-- what single calls are told
abbrev pub lay_said : Result Cover LayRefusal → Said
lay_said (Ok q) = covers q.pieces q.width
lay_said (Err e) = refuses (lay_refusal_told e) (Some e.fault)

abbrev pub find_said : Result Found FindRefusal → Said
find_said (Ok f) = finds f.row f.place f.width
find_said (Err e) = refuses (find_told e) None

abbrev pub put_said : Result (Unit {0}) PutRefusal → Said
put_said (Ok u) = accepts
put_said (Err e) = refuses (put_told e) None

-- and those of a run
abbrev pub said : Answer → Said
said (answer.Laid q) = lay_said (Ok q)
said (answer.NotLaid e) = lay_said (Err e)
said (answer.Found f) = find_said (Ok f)
said (answer.NotFound e) = find_said (Err e)
said answer.Put = put_said (Ok tt)
said (answer.NotPut e) = put_said (Err e)
said answer.Lifted = lifts

-- an answer is one of the call that was made
abbrev pub Replies : Call → Answer → Type 0
Replies call.Lay (answer.Laid q) = Unit {0}
Replies call.Lay (answer.NotLaid e) = Unit {0}
Replies (call.Find path) (answer.Found f) = Unit {0}
Replies (call.Find path) (answer.NotFound e) = Unit {0}
Replies (call.Put path bytes) answer.Put = Unit {0}
Replies (call.Put path bytes) (answer.NotPut e) = Unit {0}
Replies call.Lift answer.Lifted = Unit {0}
Replies _ _ = ⊥
