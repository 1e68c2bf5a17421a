-- What the bytes of a value are, said byte by byte.
use Rattle.std.specs.Prelude.{◌≡◌, ℕ, ◌<◌, ◌≤◌, ◌⊎◌, List, length, slice_index}

-- a to z, or A to Z
abbrev pub Letter : ℕ → Type 0
Letter b = ((97 ≤ b) × (b ≤ 122)) ⊎ ((65 ≤ b) × (b ≤ 90))

-- 0 to 9
abbrev pub Digit : ℕ → Type 0
Digit b = (48 ≤ b) × (b ≤ 57)

-- a letter, a digit or _
abbrev pub NamePart : ℕ → Type 0
NamePart b = Letter b ⊎ (Digit b ⊎ (b ≡ 95))

-- a name: 1 to 16 bytes, a letter first, then letters, digits or _
pub record ProperName (bytes : List ℕ) : Type 0 where
  pub some : 1 ≤ length bytes
  pub few : length bytes ≤ 16
  pub first : Letter (slice_index bytes 0)
  pub each : (i : ℕ) → i < length bytes → NamePart (slice_index bytes i)
