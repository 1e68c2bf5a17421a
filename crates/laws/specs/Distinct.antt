-- Pieces with different paths.
use Rattle.std.specs.Prelude.{◌≡◌, List, [], ◌∷◌}
use Rattle.meaning.specs.Terms.{Path, PieceSpec}

-- no piece has the path
abbrev pub Apart : Path → List PieceSpec → Type 0
Apart q [] = Unit
Apart q (p ∷ ps) = ¬ (q ≡ p.path) × Apart q ps

-- no two pieces have the same path
abbrev pub Distinct : List PieceSpec → Type 0
Distinct [] = Unit
Distinct (p ∷ ps) = Apart p.path ps × Distinct ps
