-- The open records: fronts of the path that is being laid, innermost first.
use Rattle.std.specs.Prelude.{ℕ, zero, suc, List, [], ◌∷◌, take, slice_index}
use Rattle.path.specs.Meaning.{Downward, path_of}
use Rattle.opened.specs.declared.Opened.{Opened}

-- the fronts whose lengths are the first n of those given, the last of them first
abbrev pub fronts : List Downward → List ℕ → ℕ → List (List Downward)
fronts P lens zero = []
fronts P lens (suc n) = take (slice_index lens n) P ∷ fronts P lens n

abbrev pub records_of : Opened → List (List Downward)
records_of o = fronts (path_of o.path) o.lens o.count
