-- Cells with other bytes in their places, one after another.
use Rattle.std.proofs.Common.{◌≡◌, ℕ, zero, suc, ◌+◌, ◌-◌, ◌<◌, ◌≤◌, inl, inr, min, List, [], ◌∷◌}
use Rattle.std.proofs.Common.{◌++◌, length, get_or, take, set, Some, None, Option, ⊎_elim, Ok, Err}
use Rattle.std.proofs.Common.{Result, sym, refl, ap, ◌∙◌, subst, arith}
use Rattle.std.specs.List.{slice_get}
use Rattle.std.specs.Option.{option_or}
use Rattle.std.proofs.lemmas.List.{take_all, take_more, map-append}
use Rattle.std.proofs.lemmas.Bool.{cases_lt}
use Rattle.cells.specs.declared.cell.Cell.{Cell}
use Rattle.cells.specs.declared.cell.Cell.TheVariants.{Byte}
use Rattle.cells.specs.declared.cell.ReadFault.{ReadFault}
use Rattle.cells.specs.declared.cell.ReadFault.TheVariants.{PastEnd}
use Rattle.cells.specs.Cells.{Answers, answered}
use Rattle.cells.specs.Changed.{ChangeSpec, change_of, changes_of, with_bytes, changed, IsByteFor}
use Rattle.cells.specs.Changed.{MakesOf}
use Rattle.cells.specs.declared.change.Change.{Change}
use Rattle.cells.specs.Laws.{changed_length}
use Rattle.cells.proofs.Tells.{answers}
use Rattle.cells.proofs.Meanings.{read_past}

with_none : (cs : List Cell) (p : ℕ) → with_bytes cs p [] ≡ cs
with_none [] p = refl
with_none (c ∷ cs) zero = refl
with_none (c ∷ cs) (suc p) = ap {B = List Cell} (λ ds. c ∷ ds) (with_none cs p)

-- the cells that no byte is put into
kept_before : (cs : List Cell) (p : ℕ) (bs : List ℕ) (k : ℕ) → k < p
    → slice_get (with_bytes cs p bs) k ≡ slice_get cs k
kept_before [] p bs k h = refl
kept_before (c ∷ cs) zero bs k h = absurd (omega arith)
kept_before (c ∷ cs) (suc p) bs zero h = refl
kept_before (c ∷ cs) (suc p) bs (suc k) h = kept_before cs p bs k (omega arith)

kept_behind : (cs : List Cell) (p : ℕ) (bs : List ℕ) (k : ℕ) → p + length bs ≤ k
    → slice_get (with_bytes cs p bs) k ≡ slice_get cs k
kept_behind [] p bs k h = refl
kept_behind (c ∷ cs) zero [] k h = refl
kept_behind (c ∷ cs) zero (b ∷ bs) zero h = absurd (omega arith)
kept_behind (c ∷ cs) zero (b ∷ bs) (suc k) h = kept_behind cs zero bs k (omega arith)
kept_behind (c ∷ cs) (suc p) bs zero h = absurd (omega arith)
kept_behind (c ∷ cs) (suc p) bs (suc k) h = kept_behind cs p bs k (omega arith)

-- and those that one is
put_at : (cs : List Cell) (p : ℕ) (bs : List ℕ) (i k b : ℕ) → k ≡ p + i → k < length cs
    → slice_get bs i ≡ Some b → slice_get (with_bytes cs p bs) k ≡ Some (Byte b)
put_at [] p bs i k b z h e = absurd (omega arith)
put_at (c ∷ cs) zero [] i k b z h e = absurd (let w : ◌≡◌ {A = ℕ} 0 1 = cc in omega arith)
put_at (c ∷ cs) zero (x ∷ bs) zero zero b z h e = let same : x ≡ b = cc in
    ap (λ y. Some (Byte y)) same
put_at (c ∷ cs) zero (x ∷ bs) zero (suc k) b z h e = absurd (omega arith)
put_at (c ∷ cs) zero (x ∷ bs) (suc i) zero b z h e = absurd (omega arith)
put_at (c ∷ cs) zero (x ∷ bs) (suc i) (suc k) b z h e =
    put_at cs zero bs i k b (omega arith) (omega arith) e
put_at (c ∷ cs) (suc p) bs i zero b z h e = absurd (omega arith)
put_at (c ∷ cs) (suc p) bs i (suc k) b z h e = put_at cs p bs i k b (omega arith) (omega arith) e

-- what one change makes of a cell
makes_one : (c : ChangeSpec) (k : ℕ) (r : Option ℕ) → IsByteFor c k r → MakesOf (c ∷ []) k r
makes_one c k None (inl h) = λ cs. kept_before cs c.place c.bytes k h
makes_one c k None (inr h) = λ cs. kept_behind cs c.place c.bytes k h
makes_one c k (Some b) h =
    λ cs here. put_at cs c.place c.bytes (k - c.place) k b (omega arith) here h.1

-- changes behind others
changed_append : (cs : List Cell) (earlier later : List ChangeSpec)
    → changed cs (earlier ++ later) ≡ changed (changed cs earlier) later
changed_append cs [] later = refl
changed_append cs (c ∷ earlier) later = changed_append (with_bytes cs c.place c.bytes) earlier later

one_more : (cs : List Cell) (earlier : List ChangeSpec) (c : ChangeSpec) (k : ℕ)
    → slice_get (changed cs (earlier ++ c ∷ [])) k
    ≡ slice_get (changed (changed cs earlier) (c ∷ [])) k
one_more cs earlier c k = ap (λ ds. slice_get ds k) (changed_append cs earlier (c ∷ []))

-- what they make of a cell: what the last one does, and else what those before it do
makes_more : (earlier : List ChangeSpec) (c : ChangeSpec) (k : ℕ) (r o : Option ℕ)
    → MakesOf earlier k o → MakesOf (c ∷ []) k r → MakesOf (earlier ++ c ∷ []) k (option_or r o)
makes_more earlier c k (Some b) o before here =
    λ cs h.
    one_more cs earlier c k ∙ here (changed cs earlier) (omega (arith, changed_length cs earlier))
makes_more earlier c k None (Some b) before here =
    λ cs h. one_more cs earlier c k ∙ here (changed cs earlier) ∙ before cs h
makes_more earlier c k None None before here =
    λ cs. one_more cs earlier c k ∙ here (changed cs earlier) ∙ before cs

pub makes_next : (changes : List Change) (i k : ℕ) (d : Change) (r o x : Option ℕ)
    → i < length changes → MakesOf (changes_of (take i changes)) k o
    → IsByteFor (change_of (get_or changes i d)) k r → x ≡ option_or r o
    → MakesOf (changes_of (take (i + 1) changes)) k x
makes_next changes i k d r o x h before here e =
    let earlier = changes_of (take i changes) in
    let next = get_or changes i d in
    let c = change_of next in
    let more : changes_of (take (i + 1) changes) ≡ earlier ++ c ∷ []
    = ap changes_of (take_more changes i d h) ∙ map-append change_of (take i changes) (next ∷ []) in
    let makes : MakesOf (earlier ++ c ∷ []) k (option_or r o)
    = makes_more earlier c k r o before (makes_one c k r here) in
    subst (λ cs. MakesOf cs k x) (sym more)
    (subst (λ y. MakesOf (earlier ++ c ∷ []) k y) (sym e) makes)

-- the answer of a read of changed cells
module _ (cs : List Cell) (changes : List ChangeSpec) (k : ℕ) where
  pub past_answers : length cs ≤ k → Answers (changed cs changes) k (Err (PastEnd k))
  past_answers h =
      answers (sym (read_past (changed cs changes) k (omega (arith, changed_length cs changes))))

  pub new_answers : (b : ℕ) → k < length cs → MakesOf changes k (Some b)
      → Answers (changed cs changes) k (Ok b)
  new_answers b h m = answers (ap (answered k) (sym (m cs h)))

  pub old_answers : (r : Result ℕ ReadFault) → MakesOf changes k None → Answers cs k r
      → Answers (changed cs changes) k r
  old_answers r m a = answers (a.answer ∙ ap (answered k) (sym (m cs)))

-- one byte more is put in
more_at : (cs : List Cell) (p : ℕ) (bs : List ℕ) (i k : ℕ) → i < length bs → k ≡ p + i
    → with_bytes cs p (take (suc i) bs) ≡ set (with_bytes cs p (take i bs)) k (Byte (get_or bs i 0))
more_at [] p bs i k h e = refl
more_at (c ∷ cs) zero [] i k h e = absurd (omega arith)
more_at (c ∷ cs) zero (b ∷ bs) i zero h e =
    let z : i ≡ 0 = omega arith in
    rw z (ap {B = List Cell} (λ ds. Byte b ∷ ds) (with_none cs 0))
more_at (c ∷ cs) zero (b ∷ bs) zero (suc k) h e = absurd (omega arith)
more_at (c ∷ cs) zero (b ∷ bs) (suc i) (suc k) h e =
    ap {B = List Cell} (λ ds. Byte b ∷ ds) (more_at cs zero bs i k (omega arith) (omega arith))
more_at (c ∷ cs) (suc p) bs i zero h e = absurd (omega arith)
more_at (c ∷ cs) (suc p) bs i (suc k) h e =
    ap {B = List Cell} (λ ds. c ∷ ds) (more_at cs p bs i k (omega arith) (omega arith))

-- bytes past the last cell change nothing
enough_cells : (cs : List Cell) (p n : ℕ) (bs : List ℕ) → length cs ≤ p + n
    → with_bytes cs p (take n bs) ≡ with_bytes cs p bs
enough_cells [] p n bs h = refl
enough_cells (c ∷ cs) zero zero bs h = absurd (omega arith)
enough_cells (c ∷ cs) zero (suc n) [] h = refl
enough_cells (c ∷ cs) zero (suc n) (b ∷ bs) h =
    ap {B = List Cell} (λ ds. Byte b ∷ ds) (enough_cells cs zero n bs (omega arith))
enough_cells (c ∷ cs) (suc p) n bs h =
    ap {B = List Cell} (λ ds. c ∷ ds) (enough_cells cs p n bs (omega arith))

pub written_none : (cs : List Cell) (p : ℕ) → cs ≡ with_bytes cs p []
written_none cs p = sym (with_none cs p)

pub written_more : (cs ds es : List Cell) (p i : ℕ) (bs : List ℕ)
    → ds ≡ with_bytes cs p (take i bs) → i < length bs
    → es ≡ set ds (p + i) (Byte (get_or bs i 0)) → es ≡ with_bytes cs p (take (i + 1) bs)
written_more cs ds es p i bs e h f =
    let next : suc i ≡ i + 1 = omega arith in
    f ∙ ap (λ xs. set xs (p + i) (Byte (get_or bs i 0))) e ∙ sym (more_at cs p bs i (p + i) h refl)
    ∙ ap (λ n. with_bytes cs p (take n bs)) next

pub written_all : (cs ds : List Cell) (p n : ℕ) (bs : List ℕ)
    → ds ≡ with_bytes cs p (take n bs) → n ≡ min (length cs - p) (length bs)
    → ds ≡ with_bytes cs p bs
written_all cs ds p n bs e m =
    e ∙ ⊎_elim
    (λ (h : n < length bs). enough_cells cs p n bs (omega arith))
    (λ (h : length bs ≤ n). ap (with_bytes cs p) (take_all n bs h))
    (cases_lt n (length bs))

pub ruleset written = (written_none, written_more)
