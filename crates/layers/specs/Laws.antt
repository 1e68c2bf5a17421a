-- The messages of the layers keep the law of a message.
use Rattle.std.specs.Prelude.{◌≡◌, ℕ, zero, suc, ◌+◌, ◌-◌, min, List, [], ◌∷◌, ◌++◌, map, length, take, drop, refl}
use Rattle.std.proofs.Common.{ap, ◌∙◌, arith, length-take, length-drop, length-append}
use Rattle.std.proofs.lemmas.List.{length-map}
use Rattle.cells.specs.declared.cell.Cell.{Cell}
use Rattle.cells.specs.declared.cell.Cell.TheVariants.{Byte, Lost}
use Rattle.cells.specs.Cells.{MarksFit, Lawful, NoneLost}
use Rattle.layers.specs.Layers.{aged, windowed, swap_pairs, swapped, joined}

marks_take : (n : ℕ) (cs : List Cell) → MarksFit cs → MarksFit (take n cs)
marks_take zero cs h = tt
marks_take (suc n) [] h = tt
marks_take (suc n) (c ∷ cs) h = (h.0, marks_take n cs h.1)

marks_drop : (n : ℕ) (cs : List Cell) → MarksFit cs → MarksFit (drop n cs)
marks_drop zero cs h = h
marks_drop (suc n) [] h = tt
marks_drop (suc n) (c ∷ cs) h = marks_drop n cs h.1

marks_aged : (cs : List Cell) → MarksFit cs → MarksFit (map aged cs)
marks_aged [] h = tt
marks_aged (Byte b ∷ cs) h = (tt, marks_aged cs h.1)
marks_aged (Lost m ∷ cs) h = ((h.0.0, omega arith), marks_aged cs h.1)

pub windowed_length : (a n : ℕ) (cs : List Cell) → length (windowed a n cs) ≡ min n (length cs - a)
unfolding windowed
windowed_length a n cs = length-map (take n (drop a cs)) aged ∙ length-take n (drop a cs) ∙ ap (min n) (length-drop a cs)

pub windowed_lawful : (a n : ℕ) (cs : List Cell) → Lawful cs → Lawful (windowed a n cs)
unfolding windowed
windowed_lawful a n cs h =
    record {
      bounded = omega (arith, windowed_length a n cs, h.bounded);
      marked = marks_aged (take n (drop a cs)) (marks_take n (drop a cs) (marks_drop a cs h.marked));
    }

whole_take : (n : ℕ) (cs : List Cell) → NoneLost cs → NoneLost (take n cs)
whole_take zero cs w = tt
whole_take (suc n) [] w = tt
whole_take (suc n) (c ∷ cs) w = (w.0, whole_take n cs w.1)

whole_drop : (n : ℕ) (cs : List Cell) → NoneLost cs → NoneLost (drop n cs)
whole_drop zero cs w = w
whole_drop (suc n) [] w = tt
whole_drop (suc n) (c ∷ cs) w = whole_drop n cs w.1

whole_aged : (cs : List Cell) → NoneLost cs → NoneLost (map aged cs)
whole_aged [] w = tt
whole_aged (Byte b ∷ cs) w = (tt, whole_aged cs w.1)
whole_aged (Lost m ∷ cs) w = absurd w.0

pub windowed_whole : (a n : ℕ) (cs : List Cell) → NoneLost cs → NoneLost (windowed a n cs)
unfolding windowed
windowed_whole a n cs w = whole_aged (take n (drop a cs)) (whole_take n (drop a cs) (whole_drop a cs w))

length_swap_pairs : (cs : List Cell) → length (swap_pairs cs) ≡ length cs
length_swap_pairs [] = refl
length_swap_pairs (x ∷ []) = refl
length_swap_pairs (x ∷ (y ∷ cs)) = ap (λ n. suc (suc n)) (length_swap_pairs cs)

pub swapped_length : (cs : List Cell) → length (swapped cs) ≡ length cs
unfolding swapped
swapped_length cs = length-map (swap_pairs cs) aged ∙ length_swap_pairs cs

marks_swap : (cs : List Cell) → MarksFit cs → MarksFit (swap_pairs cs)
marks_swap [] h = tt
marks_swap (x ∷ []) h = h
marks_swap (x ∷ (y ∷ cs)) h = (h.1.0, (h.0, marks_swap cs h.1.1))

pub swapped_lawful : (cs : List Cell) → Lawful cs → Lawful (swapped cs)
unfolding swapped
swapped_lawful cs h =
    record { bounded = omega (arith, swapped_length cs, h.bounded); marked = marks_aged (swap_pairs cs) (marks_swap cs h.marked) }

whole_pairs : (cs : List Cell) → NoneLost cs → NoneLost (swap_pairs cs)
whole_pairs [] w = tt
whole_pairs (x ∷ []) w = w
whole_pairs (x ∷ (y ∷ cs)) w = (w.1.0, (w.0, whole_pairs cs w.1.1))

pub swapped_whole : (cs : List Cell) → NoneLost cs → NoneLost (swapped cs)
unfolding swapped
swapped_whole cs w = whole_aged (swap_pairs cs) (whole_pairs cs w)

pub joined_length : (cs ds : List Cell) → length (joined cs ds) ≡ min 65535 (length cs + length ds)
unfolding joined
joined_length cs ds =
    length-map (take 65535 (cs ++ ds)) aged ∙ length-take 65535 (cs ++ ds) ∙ ap (min 65535) (length-append cs ds)

marks_append : (cs ds : List Cell) → MarksFit cs → MarksFit ds → MarksFit (cs ++ ds)
marks_append [] ds h k = k
marks_append (c ∷ cs) ds h k = (h.0, marks_append cs ds h.1 k)

pub joined_lawful : (cs ds : List Cell) → Lawful cs → Lawful ds → Lawful (joined cs ds)
unfolding joined
joined_lawful cs ds h k =
    record {
      bounded = omega (arith, joined_length cs ds);
      marked = marks_aged (take 65535 (cs ++ ds)) (marks_take 65535 (cs ++ ds) (marks_append cs ds h.marked k.marked));
    }

whole_append : (cs ds : List Cell) → NoneLost cs → NoneLost ds → NoneLost (cs ++ ds)
whole_append [] ds w v = v
whole_append (c ∷ cs) ds w v = (w.0, whole_append cs ds w.1 v)

pub joined_whole : (cs ds : List Cell) → NoneLost cs → NoneLost ds → NoneLost (joined cs ds)
unfolding joined
joined_whole cs ds w v = whole_aged (take 65535 (cs ++ ds)) (whole_take 65535 (cs ++ ds) (whole_append cs ds w v))
