-- The worked examples of laying.
use Rattle.std.specs.Prelude.{◌≡◌, [], ◌∷◌, Some, codes}
use Rattle.told.specs.Answers.{given, refused}
use Rattle.path.specs.Meaning.{field, element}
use Rattle.meaning.specs.Matcher.{accepted}
use Rattle.worked.specs.Sheets.{Accepted, laying, tells, refusal, piece, points, empty, empties}
use Rattle.worked.specs.Sheets.{too_many_empties, nothing, then_nothing, above, above_or}
use Rattle.worked.specs.Sheets.{two_versions, count_behind, own_counts}

-- the sheets are accepted
pub record SheetsAccepted : Type 0 where
  pub points : Accepted points 9
  pub empty : Accepted empty 1
  pub empties : Accepted empties 3
  pub too_many_empties : Accepted too_many_empties 3
  pub nothing : Accepted nothing 1
  pub then_nothing : Accepted then_nothing 7
  pub above : Accepted above 5
  pub above_or : Accepted above_or 8
  pub two_versions : Accepted two_versions 21
  pub count_behind : Accepted count_behind 9
  pub own_counts : Accepted own_counts 11

-- a count of 2 and two points; the byte 7f is the rest
abbrev pub TwoPoints : Type 0
TwoPoints =
    (laying points "02ffec000a7f" 512
    ≡ accepted (
    piece (field (codes "n") ∷ []) 3 0 1
    ∷ piece (field (codes "pts") ∷ element 0 ∷ []) 8 1 2
    ∷ piece (field (codes "pts") ∷ element 1 ∷ []) 8 3 2
    ∷ []))
    × (tells points "02ffec000a7f" 512 ≡ given (3, 5))

-- the count is lost: 16 at the array, with the mark's place and layers
abbrev pub LostCount : Type 0
LostCount =
    tells points "--ffec" 512
    ≡ refused (record (refusal 16 4 1 1) { lost = Some 0; layers = Some 0 })

-- a list of two places is full at place 3
abbrev pub ListOfTwo : Type 0
ListOfTwo = tells points "02ffec000a7f" 2 ≡ refused (refusal 14 8 3 2)

-- the first point passes the end: 11 at place 1, also where the list is full
abbrev pub CutPoint : Type 0
CutPoint = (tells points "02ff" 512 ≡ refused (refusal 11 8 1 1))
    × (tells points "02ff" 1 ≡ refused (refusal 11 8 1 1))

-- a record without fields covers nothing; so do 65,535 of them; 65,536 are too many
abbrev pub EmptyRecords : Type 0
EmptyRecords =
    (tells empty "" 0 ≡ given (0, 0))
    × (tells empties "" 0 ≡ given (0, 0))
    × (tells too_many_empties "" 0 ≡ refused (refusal 15 0 0 0))

-- a row `void` is opened: at once, and behind a byte
abbrev pub VoidOpened : Type 0
VoidOpened = (tells nothing "" 0 ≡ refused (refusal 13 0 0 0))
    × (tells then_nothing "02" 512 ≡ refused (refusal 13 5 1 1))

-- 2^63 - 1 plus 1 has no value, also under `or` after `true`
abbrev pub AboveLimit : Type 0
AboveLimit = (tells above "" 0 ≡ refused (refusal 12 0 0 0))
    × (tells above_or "" 0 ≡ refused (refusal 12 0 0 0))

-- a count that both versions of a head declare is found in either
abbrev pub CountInBothVersions : Type 0
CountInBothVersions =
    (laying two_versions "0100020708" 512
    ≡ accepted (
    piece (field (codes "long") ∷ []) 4 0 1
    ∷ piece (field (codes "head") ∷ field (codes "n") ∷ []) 13 1 2
    ∷ piece (field (codes "pts") ∷ element 0 ∷ []) 20 3 1
    ∷ piece (field (codes "pts") ∷ element 1 ∷ []) 20 4 1
    ∷ []))
    × (laying two_versions "000107" 512
    ≡ accepted (
    piece (field (codes "long") ∷ []) 4 0 1
    ∷ piece (field (codes "head") ∷ field (codes "n") ∷ []) 14 1 1
    ∷ piece (field (codes "pts") ∷ element 0 ∷ []) 20 2 1
    ∷ []))

-- a count is not looked for behind its array
abbrev pub CountBehindArray : Type 0
CountBehindArray = tells count_behind "ffec01" 512 ≡ refused (refusal 12 4 0 0)

-- each record of an array finds its own count
abbrev pub OwnCounts : Type 0
OwnCounts =
    laying own_counts "0107020809" 512
    ≡ accepted (
    piece (element 0 ∷ field (codes "n") ∷ []) 5 0 1
    ∷ piece (element 0 ∷ field (codes "pts") ∷ element 0 ∷ []) 10 1 1
    ∷ piece (element 1 ∷ field (codes "n") ∷ []) 5 2 1
    ∷ piece (element 1 ∷ field (codes "pts") ∷ element 0 ∷ []) 10 3 1
    ∷ piece (element 1 ∷ field (codes "pts") ∷ element 1 ∷ []) 10 4 1
    ∷ [])
