-- A path that grows by steps, as long as a placed piece can have such a path.
use Rattle.std.specs.Prelude.{Bool, cond, ◌&&◌, List, [], ◌∷◌, ◌++◌, length, Some, None, Ok, Err, Option, nat_le, nat_lt}
use Rattle.sheet_text.specs.Chars.{is_name}
use Rattle.path.specs.declared.Path.{Path}
use Rattle.path.specs.Meaning.{Downward, field, element, path_of}
use Rattle.meaning.specs.Values.{Outcome}

-- a step that a path can hold
abbrev pub fits : Downward → Bool
fits (field n) = is_name n
fits (element i) = nat_le i 65534

-- one step more, of at most eight
abbrev pub push : Option (List Downward) → Downward → Option (List Downward)
push None d = None
push (Some P) d = cond (nat_lt (length P) 8 && fits d) (Some (P ++ (d ∷ []))) None

abbrev pub extend : Option (List Downward) → List Downward → Option (List Downward)
extend P [] = P
extend P (d ∷ q) = extend (push P d) q

abbrev pub reach_of : Option Path → Option (List Downward)
reach_of None = None
reach_of (Some p) = Some (path_of p)

abbrev pub as_reach : Outcome (Option Path) → Outcome (Option (List Downward))
as_reach (Ok p) = Ok (reach_of p)
as_reach (Err e) = Err e
