-- Places that text goes to, piece after piece.
use Rattle.std.specs.Prelude.{◌≡◌, ℕ, ◌+◌, ◌-◌, ◌^◌, min, List, [], ◌++◌, length}

-- what every such place keeps: no text alters nothing, and two texts in a row are their join
pub record Joins {S : Type 0} (took : S → List ℕ → S → Type 0) : Type 0 where
  pub nothing : (s : S) → took s [] s
  pub join : (s : S) (a : List ℕ) (t : S) (b : List ℕ) (u : S) → took s a t → took t b u → took s (a ++ b) u

-- a count of bytes, which may stop at the largest number
abbrev pub Counted : ℕ → List ℕ → ℕ → Type 0
Counted i bs j = min j (2 ^ 64 - 1) ≡ min (i + length bs) (2 ^ 64 - 1)
