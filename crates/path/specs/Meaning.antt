-- What names, steps and paths mean.
use Rattle.std.specs.Prelude.{ℕ, Bool, true, false, cond, List, [], ◌∷◌, map, take, ◌==◌}
use Rattle.std.specs.Str.{bytes_eq}
use Rattle.path.specs.declared.Name.{Name}
use Rattle.path.specs.declared.Step.{Step}
use Rattle.path.specs.declared.Step.TheVariants.{Field, Index}
use Rattle.path.specs.declared.Path.{Path}

-- a step: into the field with these bytes as its name, or into the element of this number
pub data Downward : Type 0 where
  field : List ℕ → Downward
  element : ℕ → Downward

-- the bytes of a name
abbrev pub name_of : Name → List ℕ
name_of n = take n.len n.bytes

-- where a step goes
abbrev pub step_of : Step → Downward
step_of (Field n) = field (name_of n)
step_of (Index i) = element i.number

-- the steps from the root down
abbrev pub path_of : Path → List Downward
path_of p = map step_of (take p.len p.steps)

-- equal steps, a field's by its name, and equal paths
abbrev pub same_step : Downward → Downward → Bool
same_step (field m) (field n) = bytes_eq m n
same_step (element i) (element j) = i == j
same_step _ _ = false

abbrev pub same_path : List Downward → List Downward → Bool
same_path [] [] = true
same_path (x ∷ xs) (y ∷ ys) = cond (same_step x y) (same_path xs ys) false
same_path _ _ = false
