-- What a bounded list holds.
use Rattle.std.specs.List.{slice_get}
use Rattle.std.specs.Prelude.{◌≡◌, ℕ, ◌<◌, Bool, true, false, cond, List, [], ◌∷◌, length, take, Some, None, Option}
use Rattle.list.specs.declared.BoundedList.{BoundedList}

module _ {T : Type 0} where
  -- every entry of the slice, in use or not
  abbrev pub backing : BoundedList T → List T
  backing l = l.entries.now

  -- the entries in use
  abbrev pub contents : BoundedList T → List T
  contents l = take l.count (backing l)

  -- how many entries the slice has
  abbrev pub room : BoundedList T → ℕ
  room l = length (backing l)

  -- how many entries are in use
  abbrev pub used : BoundedList T → ℕ
  used l = length (contents l)

  abbrev pub or_else : Option T → Option T → Option T
  or_else (Some x) other = Some x
  or_else None other = other

  -- the last entry that passes
  abbrev pub last_of : (T → Bool) → List T → Option T
  last_of passes [] = None
  last_of passes (x ∷ xs) = or_else (last_of passes xs) (cond (passes x) (Some x) None)

  -- x stands among the entries and passes, and none behind it does
  pub record Found (passes : T → Bool) (xs : List T) (x : T) : Type 0 where
    pub place : ℕ
    pub is : slice_get xs place ≡ Some x
    pub passing : passes x ≡ true
    pub last : (j : ℕ) → place < j → (y : T) → slice_get xs j ≡ Some y → passes y ≡ false

  -- no entry passes
  abbrev pub NonePasses : (T → Bool) → List T → Type 0
  NonePasses passes xs = (j : ℕ) (y : T) → slice_get xs j ≡ Some y → passes y ≡ false
