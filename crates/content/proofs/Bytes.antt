-- The cells of a piece, one after the other.
use Rattle.std.proofs.Common.{◌≡◌, ℕ, zero, suc, ◌+◌, ◌-◌, ◌*◌, ◌^◌, ◌<◌, ◌≤◌, List, [], ◌∷◌, drop}
use Rattle.std.proofs.Common.{Ok, Err, ap, ◌∙◌, arith}
use Rattle.std.specs.List.{slice_get}
use Rattle.std.proofs.Math.Nat.{pow-suc, pow-le-pow_right}
use Rattle.cells.specs.declared.cell.Cell.{Cell}
use Rattle.cells.specs.declared.cell.Cell.TheVariants.{Byte, Lost}
use Rattle.cells.specs.declared.cell.ReadFault.{ReadFault}
use Rattle.cells.specs.declared.cell.ReadFault.TheVariants.{PastEnd, LostCell}
use Rattle.cells.specs.Cells.{answered, read_at}
use Rattle.meaning.specs.Refusals.{from_read}
use Rattle.meaning.specs.Values.{unsigned}

next_ok : (cs : List Cell) (j k n w b : ℕ) → answered j (slice_get cs k) ≡ Ok b
    → unsigned n (suc w) (drop k cs) ≡ unsigned (n * 256 + b) w (drop (suc k) cs)
next_ok [] j k n w b e = absurd (let z : ◌≡◌ {A = ℕ} 0 1 = cc in omega arith)
next_ok (Byte x ∷ cs) j zero n w b e = let s : x ≡ b = cc in ap (λ y. unsigned (n * 256 + y) w cs) s
next_ok (Lost m ∷ cs) j zero n w b e = absurd (let z : ◌≡◌ {A = ℕ} 0 1 = cc in omega arith)
next_ok (c ∷ cs) j (suc k) n w b e = next_ok cs j k n w b e

next_err : (cs : List Cell) (j k n w : ℕ) (f : ReadFault) → answered j (slice_get cs k) ≡ Err f
    → unsigned n (suc w) (drop k cs) ≡ Err (from_read f)
next_err [] j zero n w f e = let s : PastEnd j ≡ f = cc in ap (λ y. Err (from_read y)) s
next_err [] j (suc k) n w f e = let s : PastEnd j ≡ f = cc in ap (λ y. Err (from_read y)) s
next_err (Byte x ∷ cs) j zero n w f e = absurd (let z : ◌≡◌ {A = ℕ} 0 1 = cc in omega arith)
next_err (Lost m ∷ cs) j zero n w f e = let s : LostCell m ≡ f = cc in ap (λ y. Err (from_read y)) s
next_err (c ∷ cs) j (suc k) n w f e = next_err cs j k n w f e

-- the cell at k, of those before e
module _ (cs : List Cell) (k e n : ℕ) (h : k < e) where
  left : e - k ≡ suc (e - (k + 1))
  left = omega arith

  pub digit_read : (b : ℕ) → read_at cs k ≡ Ok b
      → unsigned n (e - k) (drop k cs) ≡ unsigned (n * 256 + b) (e - (k + 1)) (drop (k + 1) cs)
  digit_read b r =
      let q : suc k ≡ k + 1 = omega arith in
      ap (λ w. unsigned n w (drop k cs)) left ∙ next_ok cs k k n (e - (k + 1)) b r
      ∙ ap (λ j. unsigned (n * 256 + b) (e - (k + 1)) (drop j cs)) q

  pub digit_refused : (f : ReadFault) → read_at cs k ≡ Err f
      → unsigned n (e - k) (drop k cs) ≡ Err (from_read f)
  digit_refused f r = ap (λ w. unsigned n w (drop k cs)) left ∙ next_err cs k k n (e - (k + 1)) f r

-- one byte more makes a number of one byte more
pub one_more : (n b j : ℕ) → n < 256 ^ j → b < 256 → n * 256 + b < 256 ^ (j + 1)
one_more n b j h l =
    let next : j + 1 ≡ suc j = omega arith in
    let more : 256 ^ (j + 1) ≡ 256 ^ j * 256 = ap (λ i. 256 ^ i) next ∙ pow-suc 256 j in
    omega (arith, more)

-- and up to 8 bytes fit
pub eight_fit : (n b j : ℕ) → n < 256 ^ j → b < 256 → j < 8 → n * 256 + b < 2 ^ 64
eight_fit n b j h l few =
    let most : 256 ^ (j + 1) ≤ 256 ^ 8
    = pow-le-pow_right (omega arith) {i = j + 1} {j = 8} (omega arith) in
    omega (arith, one_more n b j h l, most)
