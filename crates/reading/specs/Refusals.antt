-- What the refusals of the calls stand for.
use Rattle.std.specs.Prelude.{Some}
use Rattle.told.specs.declared.Told.{Told}
use Rattle.told.specs.Answers.{bare}
use Rattle.cells.specs.Refusals.{past_end}
use Rattle.meaning.specs.Refusals.{fault_told}
use Rattle.reading.specs.declared.refusals.LayRefusal.{LayRefusal}
use Rattle.reading.specs.declared.refusals.FindRefusal.{FindRefusal}
use Rattle.reading.specs.declared.refusals.FindRefusal.TheVariants as finds
use Rattle.reading.specs.declared.refusals.ShowRefusal.{ShowRefusal}
use Rattle.reading.specs.declared.refusals.ShowRefusal.TheVariants as shows
use Rattle.reading.specs.declared.refusals.PutRefusal.{PutRefusal}
use Rattle.reading.specs.declared.refusals.PutRefusal.TheVariants as puts

-- what the fault says, with the row in front, the place reached and the number of pieces placed
abbrev pub lay_refusal_told : LayRefusal → Told
lay_refusal_told e =
    record (fault_told e.fault) { row = Some e.row; place = Some e.place; pieces = Some e.pieces }

-- 21 to 24 carry nothing
abbrev pub find_told : FindRefusal → Told
find_told finds.NothingLaid = bare 21
find_told finds.NoPiece = bare 22

-- 31 carries the number of cells
abbrev pub show_told : ShowRefusal → Told
show_told shows.NothingLaid = bare 21
show_told shows.NoPiece = bare 22
show_told (shows.PastEnd k) = past_end k

abbrev pub put_told : PutRefusal → Told
put_told puts.NothingLaid = bare 21
put_told puts.NoPiece = bare 22
put_told puts.WrongWidth = bare 23
put_told puts.NoReading = bare 24
