-- The steps and paths that there can be.
use Rattle.std.specs.Prelude.{◌≤◌, List, length}
use Rattle.std.specs.List.{AllByRecursion}
use Rattle.sheet_text.specs.Plain.{ProperName}
use Rattle.path.specs.Meaning.{Downward, field, element}

-- a field by a proper name, or an element with a number of at most 65,534
abbrev pub Lawful : Downward → Type 0
Lawful (field n) = ProperName n
Lawful (element i) = i ≤ 65534

-- at most 8 steps, each of them lawful
pub record LawfulPath (ds : List Downward) : Type 0 where
  pub few : length ds ≤ 8
  pub each : AllByRecursion Lawful ds
