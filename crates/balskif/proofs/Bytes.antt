-- Bytes that are put into others, and the places of a piece list.
use Rattle.std.proofs.Common.{◌≡◌, refl, ℕ, zero, suc, ◌+◌, ◌≤◌, min, List, [], ◌∷◌, ◌++◌, map}
use Rattle.std.proofs.Common.{length, replicate, take, drop, sym, ap, ◌∙◌, arith}
use Rattle.std.proofs.lemmas.List.{length-map, length-replicate, length-take, length-take-le}
use Rattle.std.proofs.lemmas.List.{take-append-drop}
use Rattle.std.proofs.Math.Nat.{suc-add}
use native.Mathlib.Numerals.{unary_clauses}
use Rattle.cells.specs.declared.cell.Cell.TheVariants.{Byte}
use Rattle.cells.specs.Cells.{byte_cells, byte_spares}
use Rattle.cells.specs.Changed.{with_bytes}

-- the first places of a list that is made of one value
pub room_is : {X : Type 0} (room n : ℕ) (x : X) → room ≤ n
    → length (take room (replicate n x)) ≡ room
room_is room n x h = length-take-le room (replicate n x) (omega (arith, length-replicate n x, h))

-- the bytes with others in the places from one on
abbrev pub put_in : List ℕ → ℕ → List ℕ → List ℕ
put_in m p v = take p m ++ (v ++ drop (p + length v) m)

changed_is : (m : List ℕ) (p : ℕ) (v : List ℕ) → p + length v ≤ length m
    → with_bytes (map Byte m) p v ≡ map Byte (put_in m p v)
changed_is [] zero [] h = refl
changed_is (x ∷ m) zero [] h = refl
changed_is [] zero (b ∷ v) h = absurd (omega (arith, h))
changed_is (x ∷ m) zero (b ∷ v) h =
    simp unary_clauses (ap (λ cs. Byte b ∷ cs) (changed_is m zero v (omega (arith, h))))
changed_is [] (suc p) v h = absurd (omega (arith, h))
changed_is (x ∷ m) (suc p) v h = rw (suc-add p (length v))
    (ap (λ cs. Byte x ∷ cs) (changed_is m p v (omega (arith, h))))

front_of : (n : ℕ) (m : List ℕ) (p : ℕ) (v : List ℕ) → p + length v ≤ n → p + length v ≤ length m
    → take n (put_in m p v) ≡ put_in (take n m) p v
front_of n m zero [] h k = refl
front_of zero m zero (b ∷ v) h k = absurd (omega (arith, h))
front_of (suc n) [] zero (b ∷ v) h k = absurd (omega (arith, k))
front_of (suc n) (x ∷ m) zero (b ∷ v) h k =
    simp unary_clauses
    (ap (λ cs. b ∷ cs) (front_of n m zero v (omega (arith, h)) (omega (arith, k))))
front_of zero m (suc p) v h k = absurd (omega (arith, h))
front_of (suc n) [] (suc p) v h k = absurd (omega (arith, k))
front_of (suc n) (x ∷ m) (suc p) v h k =
    rw (suc-add p (length v))
    (ap (λ cs. x ∷ cs) (front_of n m p v (omega (arith, h)) (omega (arith, k))))

rest_of : (n : ℕ) (m : List ℕ) (p : ℕ) (v : List ℕ) → p + length v ≤ n → p + length v ≤ length m
    → drop n (put_in m p v) ≡ drop n m
rest_of n m zero [] h k = refl
rest_of zero m zero (b ∷ v) h k = absurd (omega (arith, h))
rest_of (suc n) [] zero (b ∷ v) h k = absurd (omega (arith, k))
rest_of (suc n) (x ∷ m) zero (b ∷ v) h k =
    simp unary_clauses (rest_of n m zero v (omega (arith, h)) (omega (arith, k)))
rest_of zero m (suc p) v h k = absurd (omega (arith, h))
rest_of (suc n) [] (suc p) v h k = absurd (omega (arith, k))
rest_of (suc n) (x ∷ m) (suc p) v h k =
    rw (suc-add p (length v)) (rest_of n m p v (omega (arith, h)) (omega (arith, k)))

same_bytes : (a b : List ℕ) → map Byte a ≡ map Byte b → a ≡ b
same_bytes [] [] e = refl
same_bytes [] (y ∷ b) e = let z : ◌≡◌ {A = ℕ} 0 1 = cc in absurd (omega arith)
same_bytes (x ∷ a) [] e = let z : ◌≡◌ {A = ℕ} 0 1 = cc in absurd (omega arith)
same_bytes (x ∷ a) (y ∷ b) e =
    let front : x ≡ y = cc in
    let rest : map Byte a ≡ map Byte b = cc in
    let same = same_bytes a b rest in cc

-- the cells and the spares of bytes tell all of them
pub cells_tell : (a b : List ℕ) → byte_cells a ≡ byte_cells b → byte_spares a ≡ byte_spares b
    → a ≡ b
unfolding byte_cells byte_spares
cells_tell a b e f =
    let front = same_bytes (take 65535 a) (take 65535 b) e in
    let rest = same_bytes (drop 65535 a) (drop 65535 b) f in
    sym (take-append-drop 65535 a) ∙ ap (λ l. l ++ drop 65535 a) front
    ∙ ap (λ l. take 65535 b ++ l) rest ∙ take-append-drop 65535 b

module _ (n : ℕ) (m : List ℕ) (p : ℕ) (v : List ℕ)
    (inside : p + length v ≤ length (map Byte (take n m))) where
  ends : p + length v ≤ min n (length m)
  ends = let same : length (map Byte (take n m)) ≡ min n (length m) = length-map (take n m) Byte
      ∙ length-take n m in omega arith

  front_is : map Byte (take n (put_in m p v)) ≡ with_bytes (map Byte (take n m)) p v
  front_is =
      let e = ends in
      let short : p + length v ≤ length (take n m) = omega (arith, length-take n m) in
      ap (map Byte) (front_of n m p v (omega arith) (omega arith))
      ∙ sym (changed_is (take n m) p v short)

  rest_is : map Byte (drop n (put_in m p v)) ≡ map Byte (drop n m)
  rest_is = let e = ends in ap (map Byte) (rest_of n m p v (omega arith) (omega arith))

module _ (m : List ℕ) (p : ℕ) (v : List ℕ) (inside : p + length v ≤ length (byte_cells m)) where
  pub cells_of_put : byte_cells (put_in m p v) ≡ with_bytes (byte_cells m) p v
  unfolding byte_cells
  cells_of_put = front_is 65535 m p v inside

  pub spares_of_put : byte_spares (put_in m p v) ≡ byte_spares m
  unfolding byte_cells byte_spares
  spares_of_put = rest_is 65535 m p v inside
