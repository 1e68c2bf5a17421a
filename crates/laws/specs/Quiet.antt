-- Types that place nothing, at whatever path they are laid, after certain pieces and with certain
-- records open around them.
use Rattle.std.specs.Prelude.{◌≡◌, ℕ, suc, Bool, true, cond, ◌&&◌, List, ◌++◌, length, Some, Ok}
use Rattle.std.specs.Prelude.{nat_le}
use Rattle.meaning.specs.Terms.{Path, PieceSpec, Number}
use Rattle.meaning.specs.Terms.{Num, no_number, lit, loc, add, mul, Steps, no_steps, end, dot, idx}
use Rattle.meaning.specs.Terms.{Truth, no_truth, yea, nay, bloc, not, both, either, eq, lt}
use Rattle.meaning.specs.Terms.{Ty, rec, arr, alt, Fields, none, fld}
use Rattle.meaning.specs.Values.{Message, elements_of, number, truth}
use Rattle.meaning.specs.Bars.{Bars}
use Rattle.meaning.specs.Matcher.{accepted, lay}

-- whether each location climbs at least k records, those in index steps included
abbrev mutual
  pub far : ℕ → Num → Bool
  far k no_number = true
  far k (lit n) = true
  far k (loc c s) = nat_le k c && far_steps k s
  far k (add m n) = far k m && far k n
  far k (mul m n) = far k m && far k n

  pub far_steps : ℕ → Steps → Bool
  far_steps k no_steps = true
  far_steps k end = true
  far_steps k (dot n s) = far_steps k s
  far_steps k (idx m s) = far k m && far_steps k s

abbrev pub far_truth : ℕ → Truth → Bool
far_truth k no_truth = true
far_truth k yea = true
far_truth k nay = true
far_truth k (bloc c s) = nat_le k c && far_steps k s
far_truth k (not t) = far_truth k t
far_truth k (both t u) = far_truth k t && far_truth k u
far_truth k (either t u) = far_truth k t && far_truth k u
far_truth k (eq m n) = far k m && far k n
far_truth k (lt m n) = far k m && far k n

-- After the pieces A, with the records O open outside. `k` says how many more are open inside; what
-- is consulted starts further out than they.
module _ (m : Message) (A : List PieceSpec) (O : List Path) where
  mutual
    pub data Quiet : ℕ → Ty → Type 0 where
      -- all fields are quiet, with the record open
      rec' : {k r : ℕ} {fs : Fields} → QuietFields (suc k) fs → Quiet k (rec r fs)
      -- no element
      arr₀ : {k r : ℕ} {n : Num} {τ : Ty} {z : Number} (I : List Path) → length I ≡ k
          → far k n ≡ true
          → number m A (I ++ O) n ≡ Ok z → elements_of z ≡ Some 0 → Quiet k (arr r n τ)
      -- quiet elements, however many
      arr' : {k r : ℕ} {n : Num} {τ : Ty} {z : Number} {d : ℕ} (I : List Path) → length I ≡ k
          → far k n ≡ true → number m A (I ++ O) n ≡ Ok z → elements_of z ≡ Some d
          → Quiet k τ → Quiet k (arr r n τ)
      -- the type that the truth chooses
      alt' : {k r : ℕ} {t : Truth} {τ σ : Ty} {b : Bool} (I : List Path) → length I ≡ k
          → far_truth k t ≡ true → truth m A (I ++ O) t ≡ Ok b
          → Quiet k (cond b τ σ) → Quiet k (alt r t τ σ)

    pub data QuietFields : ℕ → Fields → Type 0 where
      none' : {k : ℕ} → QuietFields k none
      fld' : {k : ℕ} {n : List ℕ} {τ : Ty} {fs : Fields} → Quiet k τ → QuietFields k fs
          → QuietFields k (fld n τ fs)

-- a quiet type is laid, and places nothing
abbrev pub QuietPasses : Type 0
QuietPasses =
    (m : Message) (bars : Bars) (A : List PieceSpec) (I O : List Path) (τ : Ty) (P : Path)
    → Quiet m A O (length I) τ → lay m bars τ P (I ++ O) A ≡ accepted A
