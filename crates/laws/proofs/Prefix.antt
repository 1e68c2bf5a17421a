use Rattle.std.proofs.Common.{◌≡◌, ℕ, zero, suc, ◌+◌, ◌*◌, ◌≤◌, Bool, true, false, cond, List, []}
use Rattle.std.proofs.Common.{◌∷◌, ◌++◌, length, take, drop, Some, None, Option, Ok, Err, sym, refl}
use Rattle.std.proofs.Common.{ap, ◌∙◌, append_assoc, append-nil, add_assoc, zero-add, arith}
use Rattle.std.proofs.Common.{length-append, length-take}
use Rattle.cells.specs.declared.cell.Cell.{Cell}
use Rattle.cells.specs.declared.cell.Cell.TheVariants.{Byte, Lost}
use Rattle.meaning.specs.Terms.{Path, PieceSpec, total}
use Rattle.meaning.specs.Terms.{Num, no_number, lit, loc, add, mul, Steps, no_steps, end, dot, idx}
use Rattle.meaning.specs.Terms.{Truth, no_truth, yea, nay, bloc, not, both, either, eq, lt}
use Rattle.meaning.specs.Terms.{Ty, Fields}
use Rattle.path.specs.Meaning.{same_path}
use Rattle.meaning.specs.Values.{Outcome, Message, over, ◌then◌, limited, is_true, placed}
use Rattle.meaning.specs.Values.{located, unsigned, content, number, resolved, truth}
use Rattle.meaning.specs.Layouts.{piece_at, Layout, base', rec', arr', alt', LayFields, none', fld'}
use Rattle.meaning.specs.Layouts.{LayElements, done', elem'}
use Rattle.list.specs.Contents.{or_else, last_of}
use Rattle.sheet_text.specs.declared.row.Row.{Row}
use Rattle.sheet_text.specs.declared.word.Base.{Base}
use Rattle.sheet_text.specs.declared.word.Base.TheVariants as base
use Rattle.laws.specs.Laws.{CoveredCellsDecide}
use Rattle.meaning.specs.Stands.{base_at}
use Rattle.meaning.specs.Values.{known, value_in, flag_in}
use Rattle.std.specs.List.{slice_get}

-- the content of a piece is decided by its own cells
unsigned_front : (acc k : ℕ) (cs : List Cell) → unsigned acc k (take k cs) ≡ unsigned acc k cs
unsigned_front acc zero cs = refl
unsigned_front acc (suc k) [] = refl
unsigned_front acc (suc k) (Byte b ∷ cs) = unsigned_front (acc * 256 + b) k cs
unsigned_front acc (suc k) (Lost m ∷ cs) = refl

part_of_front : (n p k : ℕ) (cs : List Cell) → p + k ≤ n
    → take k (drop p (take n cs)) ≡ take k (drop p cs)
part_of_front n zero zero cs h = refl
part_of_front zero zero (suc k) cs h = absurd (omega arith)
part_of_front (suc n) zero (suc k) [] h = refl
part_of_front (suc n) zero (suc k) (c ∷ cs) h =
    ap {B = List Cell} (λ r. c ∷ r) (part_of_front n zero k cs (omega arith))
part_of_front zero (suc p) k cs h = absurd (omega arith)
part_of_front (suc n) (suc p) k [] h = refl
part_of_front (suc n) (suc p) k (c ∷ cs) h = part_of_front n p k cs (omega arith)

then_same : {V W : Type 0} (x x' : Outcome V) (f f' : V → Outcome W) → x ≡ x'
    → ((v : V) → f v ≡ f' v) → (x then f) ≡ (x' then f')
then_same (Ok v) x' f f' e g = rw (← e) (g v)
then_same (Err e₀) x' f f' e g = rw (← e)

-- every piece of the list ends at n at the latest
abbrev pub Within : ℕ → List PieceSpec → Type 0
Within n [] = Unit
Within n (p ∷ ps) = (p.place + p.width ≤ n) × Within n ps

last_same : {V : Type 0} (n : ℕ) (A : List PieceSpec) (test : PieceSpec → Bool)
    (f f' : PieceSpec → Outcome V)
    → Within n A → ((p : PieceSpec) → p.place + p.width ≤ n → f p ≡ f' p)
    → (known (last_of test A) then f) ≡ (known (last_of test A) then f')
last_same n [] test f f' h g = refl
last_same n (p ∷ ps) test f f' h g = go (last_of test ps) (test p) (last_same n ps test f f' h.1 g)
  where
    go : (o : Option PieceSpec) (b : Bool) → (known o then f) ≡ (known o then f')
        → (known (or_else o (cond b (Some p) None)) then f)
        ≡ (known (or_else o (cond b (Some p) None)) then f')
    go (Some x) b e = e
    go None true e = g p h.0
    go None false e = refl

located_same : {V : Type 0} (n : ℕ) (A : List PieceSpec) (open' : List Path) (c : ℕ)
    (q q' : Outcome Path) (f f' : PieceSpec → Outcome V)
    → Within n A → q ≡ q' → ((p : PieceSpec) → p.place + p.width ≤ n → f p ≡ f' p)
    → (located A open' c q then f) ≡ (located A open' c q' then f')
located_same n A open' c q q' f f' h e g = go (slice_get open' c) q q' e
  where
    go : (o : Option Path) (q q' : Outcome Path) → q ≡ q'
        → ((known o then λ P. q then λ x. placed A (P ++ x)) then f)
        ≡ ((known o then λ P. q' then λ x. placed A (P ++ x)) then f')
    go None q q' e = refl
    go (Some P) (Ok x) q' e = rw (← e) (last_same n A (λ p. same_path p.path (P ++ x)) f f' h g)
    go (Some P) (Err v) q' e = rw (← e)

-- the content of a piece is the same in cells that agree
content_same : (cells cells' : List Cell) (n : ℕ) → take n cells ≡ take n cells' → (p : PieceSpec)
    → p.place + p.width ≤ n → content cells p ≡ content cells' p
content_same cells cells' n agree p h =
    sym (unsigned_front 0 p.width (drop p.place cells))
    ∙ ap (unsigned 0 p.width) (sym (part_of_front n p.place p.width cells h)
    ∙ ap (λ (x : List Cell). take p.width (drop p.place x)) agree
    ∙ part_of_front n p.place p.width cells' h)
    ∙ unsigned_front 0 p.width (drop p.place cells')

-- so is what it gives as a number, and as a truth
value_same : (cells cells' : List Cell) (p : PieceSpec) (w : Option Base)
    → content cells p ≡ content cells' p → value_in cells w p ≡ value_in cells' w p
value_same cells cells' p w e = ap (λ x. x then limited) e

flag_same : (cells cells' : List Cell) (p : PieceSpec) (w : Option Base)
    → content cells p ≡ content cells' p → flag_in cells w p ≡ flag_in cells' w p
flag_same cells cells' p (Some base.Bool) e = ap (λ x. x then λ k. Ok (is_true k)) e
flag_same cells cells' p _ e = refl

-- two messages give the same of each piece that ends at n at the latest
pub record Agree (n : ℕ) (m m' : Message) : Type 0 where
  pub numbers : (p : PieceSpec) → p.place + p.width ≤ n → m.piece_number p ≡ m'.piece_number p
  pub truths : (p : PieceSpec) → p.place + p.width ≤ n → m.piece_truth p ≡ m'.piece_truth p

pub cells_agree : (rows : List Row) (cells cells' : List Cell) (n : ℕ)
    → take n cells ≡ take n cells' → Agree n (over rows cells) (over rows cells')
cells_agree rows cells cells' n agree =
    let same = content_same cells cells' n agree in
    record {
      numbers = λ p h. value_same cells cells' p (base_at rows p.row) (same p h);
      truths = λ p h. flag_same cells cells' p (base_at rows p.row) (same p h);
    }

-- Values depend on what the pieces give only.
module _ (m m' : Message) (n : ℕ) (agree : Agree n m m') where
  module _ (A : List PieceSpec) (open' : List Path) (inside : Within n A) where
    mutual
      number_same : (k : Num) → number m A open' k ≡ number m' A open' k
      number_same no_number = refl
      number_same (lit k) = refl
      number_same (loc c s) = located_same n A open' c _ _ _ _ inside (resolved_same s)
          agree.numbers
      number_same (add a b) = then_same _ _ _ _ (number_same a)
          (λ x. then_same _ _ _ _ (number_same b) (λ y. refl))
      number_same (mul a b) = then_same _ _ _ _ (number_same a)
          (λ x. then_same _ _ _ _ (number_same b) (λ y. refl))

      resolved_same : (s : Steps) → resolved m A open' s ≡ resolved m' A open' s
      resolved_same no_steps = refl
      resolved_same end = refl
      resolved_same (dot k s) = then_same _ _ _ _ (resolved_same s) (λ q. refl)
      resolved_same (idx k s) = then_same _ _ _ _ (number_same k)
          (λ i. then_same _ _ _ _ (resolved_same s) (λ q. refl))

    truth_same : (t : Truth) → truth m A open' t ≡ truth m' A open' t
    truth_same no_truth = refl
    truth_same yea = refl
    truth_same nay = refl
    truth_same (bloc c s) = located_same n A open' c _ _ _ _ inside (resolved_same s) agree.truths
    truth_same (not t) = then_same _ _ _ _ (truth_same t) (λ b. refl)
    truth_same (both t u) = then_same _ _ _ _ (truth_same t)
        (λ a. then_same _ _ _ _ (truth_same u) (λ b. refl))
    truth_same (either t u) = then_same _ _ _ _ (truth_same t)
        (λ a. then_same _ _ _ _ (truth_same u) (λ b. refl))
    truth_same (eq a b) = then_same _ _ _ _ (number_same a)
        (λ x. then_same _ _ _ _ (number_same b) (λ y. refl))
    truth_same (lt a b) = then_same _ _ _ _ (number_same a)
        (λ x. then_same _ _ _ _ (number_same b) (λ y. refl))

pub total_append : (A T : List PieceSpec) → total (A ++ T) ≡ total A + total T
total_append [] T = sym (zero-add (total T))
total_append (p ∷ A) T = ap (λ (k : ℕ). p.width + k) (total_append A T)
    ∙ sym (add_assoc p.width (total A) (total T))

within_append : (n : ℕ) (A T : List PieceSpec) → Within n A → Within n T → Within n (A ++ T)
within_append n [] T h k = k
within_append n (p ∷ A) T h k = (h.0, within_append n A T h.1 k)

front_total : (n : ℕ) (A T U : List PieceSpec) → total (A ++ (T ++ U)) ≤ n → total (A ++ T) ≤ n
front_total n A T U h = omega (arith, total_append A (T ++ U), total_append T U, total_append A T)

module _ {m : Message} where
  -- the pieces of a layout end at the total width_of
  mutual
    pub layout_within : {τ : Ty} {P : Path} {open' : List Path} {A T : List PieceSpec} (n : ℕ)
        → Layout m τ P open' A T → total (A ++ T) ≤ n → Within n T
    layout_within n (base' {r = r} {w = w} {P = P} {A = A} inside) h =
        (omega (arith, total_append A (piece_at A P r w ∷ [])), tt)
    layout_within n (rec' f) h = fields_within n f h
    layout_within n (arr' known few f) h = elements_within n f h
    layout_within n (alt' known f) h = layout_within n f h

    fields_within : {fs : Fields} {P : Path} {open' : List Path} {A T : List PieceSpec} (n : ℕ)
        → LayFields m fs P open' A T → total (A ++ T) ≤ n → Within n T
    fields_within n none' h = tt
    fields_within n (fld' {A = A} {T = T} {U = U} f fs) h =
        within_append n T U (layout_within n f (front_total n A T U h))
        (fields_within n fs (rw append_assoc h))

    elements_within : {τ : Ty} {P : Path} {open' : List Path} {i k : ℕ} {A T : List PieceSpec}
        (n : ℕ)
        → LayElements m τ P open' i k A T → total (A ++ T) ≤ n → Within n T
    elements_within n done' h = tt
    elements_within n (elem' {A = A} {T = T} {U = U} f fs) h =
        within_append n T U (layout_within n f (front_total n A T U h))
        (elements_within n fs (rw append_assoc h))

  -- and the total width_of is within the cells
  mutual
    pub layout_inside : {τ : Ty} {P : Path} {open' : List Path} {A T : List PieceSpec}
        → Layout m τ P open' A T → total A ≤ m.len → total (A ++ T) ≤ m.len
    layout_inside (base' {r = r} {w = w} {P = P} {A = A} inside) h =
        omega (arith, total_append A (piece_at A P r w ∷ []))
    layout_inside (rec' f) h = fields_inside f h
    layout_inside (arr' known few f) h = elements_inside f h
    layout_inside (alt' known f) h = layout_inside f h

    fields_inside : {fs : Fields} {P : Path} {open' : List Path} {A T : List PieceSpec}
        → LayFields m fs P open' A T → total A ≤ m.len → total (A ++ T) ≤ m.len
    fields_inside (none' {A = A}) h = rw append-nil h
    fields_inside (fld' {A = A} {T = T} {U = U} f fs) h =
        rw append_assoc at (fields_inside fs (layout_inside f h))

    elements_inside : {τ : Ty} {P : Path} {open' : List Path} {i k : ℕ} {A T : List PieceSpec}
        → LayElements m τ P open' i k A T → total A ≤ m.len → total (A ++ T) ≤ m.len
    elements_inside (done' {A = A}) h = rw append-nil h
    elements_inside (elem' {A = A} {T = T} {U = U} f fs) h =
        rw append_assoc at (elements_inside fs (layout_inside f h))

module _ (m m' : Message) (n : ℕ) (agree : Agree n m m') (enough : n ≤ m'.len) where
  mutual
    moved : {τ : Ty} {P : Path} {open' : List Path} {A T : List PieceSpec}
        → Layout m τ P open' A T → Within n A → total (A ++ T) ≤ n → Layout m' τ P open' A T
    moved (base' {r = r} {w = w} {P = P} {A = A} inside) a h =
        base' (omega (arith, total_append A (piece_at A P r w ∷ [])))
    moved (rec' f) a h = rec' (moved_fields f a h)
    moved (arr' {n = k} {O = open'} {A = A} known few f) a h =
        arr' (sym (number_same m m' n agree A open' a k) ∙ known) few (moved_elements f a h)
    moved (alt' {t = t} {O = open'} {A = A} known f) a h =
        alt' (sym (truth_same m m' n agree A open' a t) ∙ known) (moved f a h)

    moved_fields : {fs : Fields} {P : Path} {open' : List Path} {A T : List PieceSpec}
        → LayFields m fs P open' A T → Within n A → total (A ++ T) ≤ n → LayFields m' fs P open' A T
    moved_fields none' a h = none'
    moved_fields (fld' {A = A} {T = T} {U = U} f fs) a h =
        let front = front_total n A T U h in
        fld' (moved f a front)
        (moved_fields fs (within_append n A T a (layout_within n f front)) (rw append_assoc h))

    moved_elements : {τ : Ty} {P : Path} {open' : List Path} {i k : ℕ} {A T : List PieceSpec}
        → LayElements m τ P open' i k A T → Within n A → total (A ++ T) ≤ n
        → LayElements m' τ P open' i k A T
    moved_elements done' a h = done'
    moved_elements (elem' {A = A} {T = T} {U = U} f fs) a h =
        let front = front_total n A T U h in
        elem' (moved f a front)
        (moved_elements fs (within_append n A T a (layout_within n f front))
        (rw append_assoc h))

take_front : (n : ℕ) (cells rest : List Cell) → n ≤ length cells
    → take n cells ≡ take n (take n cells ++ rest)
take_front zero cells rest h = refl
take_front (suc n) [] rest h = absurd (omega arith)
take_front (suc n) (c ∷ cells) rest h =
    ap {B = List Cell} (λ r. c ∷ r) (take_front n cells rest (omega arith))

pub covered_cells_decide : CoveredCellsDecide
covered_cells_decide text rows cells rest T r =
    let fits : total T ≤ length cells = layout_inside r (omega arith) in (
      fits,
      moved (over rows cells) (over rows (take (total T) cells ++ rest)) (total T)
          (cells_agree rows cells (take (total T) cells ++ rest) (total T)
          (take_front (total T) cells rest fits))
          (omega (arith, length-append (take (total T) cells) rest, length-take (total T) cells)) r
          tt (omega arith),
    )
