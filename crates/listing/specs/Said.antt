-- The answers of calls in print, one line for each.
use Rattle.std.specs.Prelude.{ℕ, List, [], ◌∷◌, ◌++◌, codes, decimal}
use Rattle.std.specs.List.{flat_map}
use Rattle.told.specs.declared.Told.{Told}
use Rattle.reading.specs.Steps.{Said, covers, finds, accepts, lifts, refuses}
use Rattle.listing.specs.Rows.{behind_comma, told_text}

-- a word and numbers behind it
abbrev pub numbers_text : List ℕ → List ℕ → List ℕ
numbers_text word ns = word ++ flat_map (λ n. behind_comma (decimal n)) ns

-- a refusal's number and values
abbrev pub refused_text : Told → List ℕ
refused_text t = codes "fault" ++ behind_comma (told_text t)

-- the number of pieces and what they cover; the row, place and width of a piece; or the refusal's
-- number and values
abbrev pub said_text : Said → List ℕ
said_text (covers n w) = numbers_text (codes "laid") (n ∷ w ∷ [])
said_text (finds r p w) = numbers_text (codes "found") (r ∷ p ∷ w ∷ [])
said_text accepts = codes "put"
said_text lifts = codes "lifted"
said_text (refuses t e) = refused_text t
