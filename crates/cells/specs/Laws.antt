-- The messages of the bottoms, and changed cells, keep the law of a message.
use Rattle.std.specs.Prelude.{◌≡◌, ℕ, zero, suc, ◌+◌, ◌*◌, ◌/◌, ◌≤◌, min, List, [], ◌∷◌, map}
use Rattle.std.specs.Prelude.{length, take, drop, Some, None, Option, refl}
use Rattle.std.specs.List.{flat_map}
use Rattle.std.proofs.Common.{sym, ap, ◌∙◌, subst, arith, length-take, length-append}
use Rattle.cells.specs.declared.cell.Cell.{Cell}
use Rattle.cells.specs.Lent.{unit_cells, UnitLaws}
use Rattle.std.proofs.Math.Nat.{suc-mul, mul-le-mul_right, div-mul-le_self}
use Rattle.std.proofs.lemmas.List.{length-map}
use Rattle.cells.specs.declared.cell.Cell.TheVariants.{Byte}
use Rattle.cells.specs.Changed.{ChangeSpec, with_bytes, changed}
use Rattle.cells.specs.Captured.{cell_of, pair_cells, capture_cells}
use Rattle.cells.specs.Hex.{pair_of}
use Rattle.cells.specs.declared.hex.Pair.{Pair}
use Rattle.cells.specs.declared.hex.Pair.TheVariants.{Digits, Dashes}
use Rattle.cells.specs.Cells.{MarkFits, MarksFit, Lawful, NoneLost, byte_cells, byte_spares, high}
use Rattle.cells.specs.Cells.{low, word_bytes, spread, word_cells, word_spares}

marks_fit : (bs : List ℕ) → MarksFit (map Byte bs)
marks_fit [] = tt
marks_fit (b ∷ bs) = (tt, marks_fit bs)

none_lost : (bs : List ℕ) → NoneLost (map Byte bs)
none_lost [] = tt
none_lost (b ∷ bs) = (tt, none_lost bs)

-- the messages of lent units
module _ {U : Type 0} {bytes : U → List ℕ} {width : ℕ} {cells spares : List U → List Cell}
    (laws : UnitLaws bytes width cells spares) where
  pub length_bytes : (us : List U) → length (flat_map bytes us) ≡ length us * width
  length_bytes [] = omega arith
  length_bytes (u ∷ us) =
      omega (
        arith,
        length-append (bytes u) (flat_map bytes us),
        laws.each u,
        length_bytes us,
        suc-mul (length us) width,
      )

  pub lent_length : (us : List U) → length (cells us) ≡ min (65535 / width) (length us) * width
  lent_length us =
      let ours = take (65535 / width) us in
      ap length (laws.counted us) ∙ length-map (flat_map bytes ours) Byte ∙ length_bytes ours
      ∙ ap (λ n. n * width) (length-take (65535 / width) us)

  lent_bounded : (us : List U) → length (cells us) ≤ 65535
  lent_bounded us =
      let fewer : min (65535 / width) (length us) ≤ 65535 / width = omega arith in
      omega (arith, lent_length us, mul-le-mul_right width fewer, div-mul-le_self 65535 width)

  pub lent_lawful : (us : List U) → Lawful (cells us)
  lent_lawful us =
      record {
        bounded = lent_bounded us;
        marked = subst MarksFit (sym (laws.counted us))
            (marks_fit (flat_map bytes (take (65535 / width) us)));
      }

  pub lent_whole : (us : List U) → NoneLost (cells us)
  lent_whole us = subst NoneLost (sym (laws.counted us))
      (none_lost (flat_map bytes (take (65535 / width) us)))

bytes_flat : (bs : List ℕ) → bs ≡ flat_map (λ b. b ∷ []) bs
bytes_flat [] = refl
bytes_flat (b ∷ bs) = ap (λ cs. b ∷ cs) (bytes_flat bs)

pub byte_laws : UnitLaws (λ b. b ∷ []) 1 byte_cells byte_spares
unfolding byte_cells byte_spares
byte_laws =
    record {
      wide = omega arith;
      each = λ b. refl;
      counted = λ bs. ap (map Byte) (bytes_flat (take 65535 bs));
      spared = λ bs. ap (map Byte) (bytes_flat (drop 65535 bs));
    }

words_flat : (ws : List ℕ) → spread ws ≡ unit_cells word_bytes ws
words_flat [] = refl
words_flat (w ∷ ws) = ap (λ cs. Byte (high w) ∷ (Byte (low w) ∷ cs)) (words_flat ws)

pub word_laws : UnitLaws word_bytes 2 word_cells word_spares
unfolding word_cells word_spares
word_laws =
    record {
      wide = omega arith;
      each = λ w. refl;
      counted = λ ws. words_flat (take 32767 ws);
      spared = λ ws. words_flat (drop 32767 ws);
    }

-- the messages of bytes and of words, counted
pub bytes_length : (bs : List ℕ) → length (byte_cells bs) ≡ min 65535 (length bs)
bytes_length bs = omega (arith, lent_length byte_laws bs)

pub length_spread : (ws : List ℕ) → length (spread ws) ≡ length ws * 2
length_spread ws =
    ap length (words_flat ws) ∙ length-map (flat_map word_bytes ws) Byte ∙ length_bytes word_laws ws

pub words_length : (ws : List ℕ) → length (word_cells ws) ≡ min 32767 (length ws) * 2
words_length ws = omega (arith, lent_length word_laws ws)

pub bytes_lawful : (bs : List ℕ) → Lawful (byte_cells bs)
bytes_lawful = lent_lawful byte_laws

pub words_lawful : (ws : List ℕ) → Lawful (word_cells ws)
words_lawful = lent_lawful word_laws

mark_of : (i : ℕ) (p : Option Pair) → i ≤ 65534 → MarkFits (cell_of i p)
mark_of i (Some (Digits b)) h = tt
mark_of i (Some Dashes) h = (h, omega arith)
mark_of i None h = (h, omega arith)

-- pair number i is the first of at most n
marks_pairs : (n i : ℕ) (t : List ℕ) → i + n ≤ 65535 → MarksFit (take n (pair_cells i t))
marks_pairs zero i t h = tt
marks_pairs (suc n) i [] h = tt
marks_pairs (suc n) i (x ∷ []) h = tt
marks_pairs (suc n) i (x ∷ (y ∷ t)) h =
    (mark_of i (pair_of x y) (omega arith), marks_pairs n (suc i) t (omega arith))

length_pairs : (i : ℕ) (t : List ℕ) → length (pair_cells i t) ≡ length t / 2
length_pairs i [] = refl
length_pairs i (x ∷ []) = refl
length_pairs i (x ∷ (y ∷ t)) = omega (arith, length_pairs (suc i) t)

pub capture_length : (t : List ℕ) → length (capture_cells t) ≡ min 65535 (length t / 2)
unfolding capture_cells
capture_length t = length-take 65535 (pair_cells 0 t) ∙ ap (min 65535) (length_pairs 0 t)

pub capture_lawful : (t : List ℕ) → Lawful (capture_cells t)
unfolding capture_cells
capture_lawful t =
    record {
      bounded = omega (arith, capture_length t);
      marked =
          marks_pairs 65535 0 t (omega arith);
    }

-- changed cells
with_bytes_length : (cs : List Cell) (k : ℕ) (bs : List ℕ) → length (with_bytes cs k bs) ≡ length cs
with_bytes_length [] k bs = refl
with_bytes_length (c ∷ cs) zero [] = refl
with_bytes_length (c ∷ cs) zero (b ∷ bs) = ap suc (with_bytes_length cs zero bs)
with_bytes_length (c ∷ cs) (suc k) bs = ap suc (with_bytes_length cs k bs)

with_bytes_marks : (cs : List Cell) (k : ℕ) (bs : List ℕ) → MarksFit cs
    → MarksFit (with_bytes cs k bs)
with_bytes_marks [] k bs h = tt
with_bytes_marks (c ∷ cs) zero [] h = h
with_bytes_marks (c ∷ cs) zero (b ∷ bs) h = (tt, with_bytes_marks cs zero bs h.1)
with_bytes_marks (c ∷ cs) (suc k) bs h = (h.0, with_bytes_marks cs k bs h.1)

pub changed_length : (cs : List Cell) (changes : List ChangeSpec)
    → length (changed cs changes) ≡ length cs
changed_length cs [] = refl
changed_length cs (c ∷ later) =
    changed_length (with_bytes cs c.place c.bytes) later ∙ with_bytes_length cs c.place c.bytes

changed_marks : (cs : List Cell) (changes : List ChangeSpec) → MarksFit cs
    → MarksFit (changed cs changes)
changed_marks cs [] h = h
changed_marks cs (c ∷ later) h =
    changed_marks (with_bytes cs c.place c.bytes) later (with_bytes_marks cs c.place c.bytes h)

pub changed_lawful : (cs : List Cell) (changes : List ChangeSpec) → Lawful cs
    → Lawful (changed cs changes)
changed_lawful cs changes l =
    record {
      bounded = omega (arith, changed_length cs changes, l.bounded);
      marked = changed_marks cs changes l.marked;
    }
