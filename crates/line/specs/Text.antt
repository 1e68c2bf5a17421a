-- What a line holds, and what appending to it does.
use Rattle.std.specs.Prelude.{◌≡◌, ℕ, ◌+◌, ◌<◌, ◌≤◌, List, ◌++◌, length, take, drop, Ok, Err, Result}
use Rattle.line.specs.declared.Line.{Line}
use Rattle.line.specs.declared.Full.{Full}

-- every place, in use or not
abbrev pub memory : Line → List ℕ
memory l = l.places.now

abbrev pub text : Line → List ℕ
text l = take l.len l.places.now

abbrev pub used : Line → ℕ
used l = length (text l)

abbrev pub room : Line → ℕ
room l = length (memory l)

-- all the bytes go in behind the text and no other place alters, or there is no room for them and nothing alters
abbrev pub Appended : Line → List ℕ → Result (Unit {0}) Full → Line → Type 0
Appended l bs (Ok u) m =
    (used l + length bs ≤ room l) × (text m ≡ text l ++ bs)
    × (memory m ≡ text l ++ (bs ++ drop (used l + length bs) (memory l)))
Appended l bs (Err f) m = (room l < used l + length bs) × (m ≡ l)
