-- The pairs of a capture, read and checked.
use Rattle.std.proofs.Common.{◌≡◌, ℕ, zero, suc, ◌+◌, ◌*◌, ◌/◌, ◌<◌, List, [], ◌∷◌, length, get_or}
use Rattle.std.proofs.Common.{drop, Some, None, Option, Result, sym, ap, refl, false, ◌∙◌, add-zero}
use Rattle.std.proofs.Common.{add-one, arith}
use Rattle.std.specs.List.{slice_get}
use Rattle.cells.specs.declared.hex.Pair.{Pair}
use Rattle.cells.specs.Hex.{pair_of}
use Rattle.cells.specs.Captured.{cell_of, pair_at, pair_cells, capture_cells, or_bad, bad_from}
use Rattle.cells.specs.declared.cell.ReadFault.{ReadFault}
use Rattle.cells.specs.Cells.{Answers, answered}
use Rattle.cells.specs.Laws.{capture_length}
use Rattle.std.specs.Option.{is_none}
use Rattle.std.proofs.lemmas.List.{drop_more, drop_all}
use Rattle.cells.proofs.Tells.{answers}
use Rattle.cells.proofs.Nths.{nth_take}

pairs_nth : (i k : ℕ) (t : List ℕ) → k < length t / 2 → slice_get (pair_cells i t) k ≡ Some (cell_of (i + k) (pair_at t k))
pairs_nth i k [] h = absurd (omega arith)
pairs_nth i k (x ∷ []) h = absurd (omega arith)
pairs_nth i zero (x ∷ (y ∷ t)) h = ap (λ j. Some (cell_of j (pair_of x y))) (sym (add-zero i))
pairs_nth i (suc k) (x ∷ (y ∷ t)) h =
    let s = x ∷ (y ∷ t) in
    let e : suc i + k ≡ i + suc k = omega arith in
    let p : suc (suc (2 * k)) ≡ 2 * suc k = omega arith in
    let q : suc (suc (2 * k + 1)) ≡ 2 * suc k + 1 = omega arith in
    pairs_nth (suc i) k t (omega arith)
    ∙ ap (λ j. Some (cell_of j (pair_at t k))) e
    ∙ ap (λ m. Some (cell_of (i + suc k) (pair_of (get_or s m 0) (get_or t (2 * k + 1) 0)))) p
    ∙ ap (λ m. Some (cell_of (i + suc k) (pair_of (get_or s (2 * suc k) 0) (get_or s m 0)))) q

-- cell k of a text
pub pair_cell : (t : List ℕ) (k : ℕ) → k < length (capture_cells t) → slice_get (capture_cells t) k ≡ Some (cell_of k (pair_at t k))
unfolding capture_cells
pair_cell t k h =
    let z : 0 + k ≡ k = omega arith in
    nth_take 65535 (pair_cells 0 t) k (omega (arith, capture_length t))
    ∙ pairs_nth 0 k t (omega (arith, capture_length t))
    ∙ ap (λ j. Some (cell_of j (pair_at t k))) z

pub pair_answers :
    (t : List ℕ) (k : ℕ) (p : Option Pair) (r : Result ℕ ReadFault) → k < length (capture_cells t) →
    p ≡ pair_at t k →
    r ≡ answered k (Some (cell_of k p)) → Answers (capture_cells t) k r
pair_answers t k p r h at e =
    answers (e ∙ ap (λ q. answered k (Some (cell_of k q))) at ∙ ap (answered k) (sym (pair_cell t k h)))

-- what the pairs from number i on say of the text
pub bad_more : (t : List ℕ) (i : ℕ) → i < length t / 2
    → bad_from i (drop (2 * i) t) ≡ or_bad i (pair_at t i) (bad_from (i + 1) (drop (2 * (i + 1)) t))
bad_more t i h =
    let one = drop_more t (2 * i) 0 (omega arith) in
    let two = drop_more t (2 * i + 1) 0 (omega arith) in
    let e : 2 * i + 1 + 1 ≡ 2 * (i + 1) = omega arith in
    ap (bad_from i) (one ∙ ap (λ s. get_or t (2 * i) 0 ∷ s) two)
    ∙ ap (λ n. or_bad i (pair_at t i) (bad_from (suc i) (drop n t))) e
    ∙ ap (λ n. or_bad i (pair_at t i) (bad_from n (drop (2 * (i + 1)) t))) (sym (add-one i))

pub good_pair : (i : ℕ) (p : Option Pair) (r : Option ℕ) → is_none p ≡ false → or_bad i p r ≡ r
good_pair i (Some p) r good = refl
good_pair i None r good = absurd (let z : ◌≡◌ {A = ℕ} 0 1 = cc in omega arith)

pub bad_cut : (t : List ℕ) (i : ℕ) → length t ≡ 2 * i + 1
    → bad_from i (drop (2 * i) t) ≡ Some (2 * i)
bad_cut t i e =
    ap (bad_from i)
    (drop_more t (2 * i) 0 (omega arith)
    ∙ ap (λ s. get_or t (2 * i) 0 ∷ s) (drop_all (2 * i + 1) t (omega arith)))

pub bad_none : (t : List ℕ) (i : ℕ) → length t ≡ 2 * i → bad_from i (drop (2 * i) t) ≡ None
bad_none t i e = ap (bad_from i) (drop_all (2 * i) t (omega arith))
