-- Paths in print.
use Rattle.std.specs.Prelude.{ℕ, Bool, ◌||◌, List, [], ◌∷◌, ◌++◌, codes, decimal, ◌==◌}
use Rattle.std.specs.List.{flat_map}
use Rattle.path.specs.Meaning.{Downward, field, element}

-- `.name`, or `[7]`
abbrev pub step_text : Downward → List ℕ
step_text (field n) = 46 ∷ n
step_text (element i) = 91 ∷ (decimal i ++ (93 ∷ []))

-- `root`, and each step behind it
abbrev pub printed : List Downward → List ℕ
printed ds = codes "root" ++ flat_map step_text ds

-- a step begins with `.` or `[`, which stand nowhere else in it
abbrev pub leads : ℕ → Bool
leads b = (b == 46) || (b == 91)
