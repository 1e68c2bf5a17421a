-- Laying by readings: what the matcher's outcome is as an answer of lay, and that no other answer
-- is possible.
use Rattle.std.proofs.Common.{◌≡◌, ◌↔◌, ℕ, ◌<◌, ◌≤◌, ⊎_elim, List, ◌++◌, length, take, drop, Ok}
use Rattle.std.proofs.Common.{Option, Err, IsOk, Result, sym, refl, ap, ◌∙◌, subst, arith}
use Rattle.std.proofs.Math.Seq.{take-append_seam}
use Rattle.std.proofs.lemmas.Bool.{cases_lt}
use Rattle.std.proofs.lemmas.List.{drop-map, map-append, length-map, take-append-drop}
use Rattle.cells.specs.declared.cell.Cell.{Cell}
use Rattle.sheet_text.specs.declared.row.Row.{Row}
use Rattle.path.specs.declared.Piece.{Piece}
use Rattle.meaning.specs.Terms.{PieceSpec, piece_of, pieces_of, total}
use Rattle.meaning.specs.Matcher.{Laid, accepted, refused}
use Rattle.meaning.specs.Laying.{laid_in}
use Rattle.laws.proofs.Stops.{stops_decide}
use Rattle.laws.proofs.Accepts.{accepts_readings}
use Rattle.reading.specs.declared.answers.Cover.{Cover}
use Rattle.reading.specs.declared.refusals.LayRefusal.{LayRefusal}
use Rattle.reading.specs.Lays.{Fits, Lays, laid, stopped, LaysReading}
use Rattle.reading.specs.Outcomes.{Placed, count_of, laid_by, laid_over, pieces_in}
use Rattle.reading.specs.Calls.{lay_said}
use Rattle.reading.specs.States.{State, state_of}
use Rattle.reading.specs.Steps.{Made, Step}
use Rattle.reading.specs.Steps as steps
use Rattle.reading.proofs.Settling.{made}

module _ (text : List ℕ) (rows : List Row) (cells : List Cell) (before : List PieceSpec) where
  abbrev found : Laid
  found = laid_in text rows cells (length before)

  fits_found : (T : List PieceSpec) → Fits text rows cells before T → found ≡ accepted T
  fits_found T h = (accepts_readings text rows cells (length before) T).1 h

  -- no two answers are possible
  one_laying : {q r : Result Cover LayRefusal} {U V : List PieceSpec}
      → Lays text rows cells before q U
      → Lays text rows cells before r V → (q ≡ r) × (U ≡ V)
  one_laying (laid {T = T} h) (laid {T = T'} k) =
      let e : accepted T ≡ accepted T' = sym (fits_found T h) ∙ fits_found T' k in
      let same : T ≡ T' = cc in (
        ap (λ (X : List PieceSpec). Ok (record { pieces = length X; width = total X })) same,
        ap (λ (X : List PieceSpec). X ++ drop (length X) before) same,
      )
  one_laying (laid {T = T} h) (stopped {A = A} {e = e} {r = r} k) =
      let f : accepted T ≡ refused e r A
      = sym (fits_found T h) ∙ (stops_decide text rows cells (length before) e r A).1 k in
      absurd (let z : ◌≡◌ {A = ℕ} 0 1 = cc in omega arith)
  one_laying (stopped {A = A} {e = e} {r = r} k) (laid {T = T} h) =
      let f : accepted T ≡ refused e r A
      = sym (fits_found T h) ∙ (stops_decide text rows cells (length before) e r A).1 k in
      absurd (let z : ◌≡◌ {A = ℕ} 0 1 = cc in omega arith)
  one_laying (stopped {A = A} {e = e} {r = r} h) (stopped {A = A'} {e = e'} {r = r'} k) =
      let f : refused e r A ≡ refused e' r' A'
      = sym ((stops_decide text rows cells (length before) e r A).1 h)
      ∙ (stops_decide text rows cells (length before) e' r' A').1 k in
      let why : e ≡ e' = cc in
      let same : A ≡ A' = cc in
      let row : r ≡ r' = cc in (
        (λ i. Err
            (record {
              fault = why i;
              row = row i;
              place = total (same i);
              pieces =
                  length (same i);
            })),
        ap (λ (X : List PieceSpec). X ++ drop (length X) before) same,
      )

  -- so what laying answers by readings is decided both ways
  pub reading_whole : (r : Result Cover LayRefusal) (U : List PieceSpec)
      → Lays text rows cells before r U
      → LaysReading text rows cells before r U
  reading_whole r U h = record {
    lays = h;
    accepts = (
      there h,
      λ f. subst IsOk (one_laying (laid f.1) h).0 refl,
    );
    only = λ q V k. one_laying k h;
  }
    where
      there : {r : Result Cover LayRefusal} {U : List PieceSpec} → Lays text rows cells before r U
          → IsOk r
          → (T : List PieceSpec) × Fits text rows cells before T
      there (laid {T = T} f) ok = (T, f)
      there (stopped k) ok = absurd (let z : ◌≡◌ {A = ℕ} 0 1 = cc in omega arith)

  -- accepted, the list begins with the reading
  pub covers : (q : Cover) (U : List PieceSpec) → Lays text rows cells before (Ok q) U
      → Fits text rows cells before (take q.pieces U) × (q.pieces ≡ length (take q.pieces U))
      × (q.width ≡ total (take q.pieces U))
  covers q U (laid {T = T} h) =
      subst (λ (X : List PieceSpec). Fits text rows cells before X × (length T ≡ length X)
      × (total T ≡ total X))
      (sym (take-append_seam T (drop (length T) before))) (h, refl, refl)

-- as a step
lay_step : (text : List ℕ) (rows : List Row) (s : State) {r : Result Cover LayRefusal}
    {U : List PieceSpec}
    → LaysReading text rows s.cells s.entries r U
    → Step text rows s steps.lay (lay_said r) (record s { entries = U; laid = laid_by r })
lay_step text rows s {r} {U} h = by h.lays h.accepts
  where
    by : {r : Result Cover LayRefusal} {U : List PieceSpec} → Lays text rows s.cells s.entries r U
        → (IsOk r ↔ ((T : List PieceSpec) × Fits text rows s.cells s.entries T))
        → Step text rows s steps.lay (lay_said r) (record s { entries = U; laid = laid_by r })
    by (laid fits) k = steps.laid fits.0 fits.1
    by (stopped {A = A} {e = e} {r = r} stops) k =
        steps.stopped (λ T reads. ⊎_elim (λ (h : length s.entries < length T). h)
        (λ (h : length T ≤ length s.entries). absurd
        (let no = k.1 (T, (reads, h)) in let z : ◌≡◌ {A = ℕ} 0 1 = cc in omega arith))
        (cases_lt (length s.entries) (length T))) stops

-- what the matcher comes to, placed and told
module _ (text : List ℕ) (rows : List Row) (cells : List Cell) (ps qs : List Piece) where
  abbrev outcome : Laid
  outcome = laid_in text rows cells (length ps)

  places_are : laid_in text rows cells (length (pieces_of ps)) ≡ outcome
  places_are = ap (laid_in text rows cells) (length-map ps piece_of)

  -- the entries after a lay
  entries_after : (n : ℕ) (A : List PieceSpec) → pieces_of (take n qs) ≡ A → drop n qs ≡ drop n ps
      → n ≡ length A
      → A ++ drop (length A) (pieces_of ps) ≡ pieces_of qs
  entries_after n A front rest count =
      sym (ap pieces_of (sym (take-append-drop n qs))
      ∙ map-append piece_of (take n qs) (drop n qs)
      ∙ ap (λ (T : List PieceSpec). T ++ pieces_of (drop n qs)) front
      ∙ ap (λ (xs : List Piece). A ++ pieces_of xs) rest
      ∙ ap (λ (T : List PieceSpec). A ++ T) (sym (drop-map piece_of n ps))
      ∙ ap (λ (k : ℕ). A ++ drop k (pieces_of ps)) count)

  lays : (r : Result Cover LayRefusal) (A : List PieceSpec) → pieces_of (take (count_of r) qs) ≡ A
      → drop (count_of r) qs ≡ drop (count_of r) ps → Placed outcome A r
      → Lays text rows cells (pieces_of ps) r (pieces_of qs)
  lays (Ok q) A front rest (is, n, w) =
      subst (Lays text rows cells (pieces_of ps) (Ok q)) (entries_after q.pieces A front rest n)
      (subst (λ x. Lays text rows cells (pieces_of ps) (Ok x) (A ++ drop (length A) (pieces_of ps)))
      (λ i. record { pieces = sym n i; width = sym w i })
      (laid ((accepts_readings text rows cells (length (pieces_of ps)) A).0 (places_are ∙ is))))
  lays (Err e) A front rest (is, n, w) =
      subst (Lays text rows cells (pieces_of ps) (Err e)) (entries_after e.pieces A front rest n)
      (subst (λ x. Lays text rows cells (pieces_of ps) (Err x)
      (A ++ drop (length A) (pieces_of ps)))
      (λ i. record { fault = e.fault; row = e.row; place = sym w i; pieces = sym n i })
      (stopped ((stops_decide text rows cells (length (pieces_of ps)) e.fault e.row A).0
      (places_are ∙ is))))

  front_by : (r : Result Cover LayRefusal) (A : List PieceSpec) → Placed outcome A r
      → A ≡ pieces_in outcome
  front_by (Ok q) A (is, n, w) = sym (ap pieces_in is)
  front_by (Err e) A (is, n, w) = sym (ap pieces_in is)

  count_by : (r : Result Cover LayRefusal) (A : List PieceSpec) → Placed outcome A r
      → count_of r ≡ length A
  count_by (Ok q) A (is, n, w) = n
  count_by (Err e) A (is, n, w) = n

  -- by the pieces that stand first
  module _ (r : Result Cover LayRefusal)
      (placed : Placed outcome (pieces_of (take (count_of r) qs)) r)
      (rest : drop (count_of r) qs ≡ drop (count_of r) ps) where
    pub lays_reading : LaysReading text rows cells (pieces_of ps) r (pieces_of qs)
    lays_reading = reading_whole text rows cells (pieces_of ps) r (pieces_of qs)
        (lays r _ refl rest placed)

    pub lay_made : (o k : Option ℕ) → k ≡ laid_by r
        → Made text rows (state_of cells ps o) steps.lay (lay_said r) (state_of cells qs k)
    lay_made o k is =
        subst (λ j. Made text rows (state_of cells ps o) steps.lay (lay_said r)
        (state_of cells qs j)) (sym is)
        (made text rows (lay_step text rows (state_of cells ps o) lays_reading))

    -- the entries, by what the matcher placed
    pub placed_entries : pieces_of qs ≡ laid_over outcome (pieces_of ps)
    placed_entries =
        let A = pieces_of (take (count_of r) qs) in
        sym (entries_after (count_of r) A refl rest (count_by r A placed))
        ∙ ap (λ (T : List PieceSpec). T ++ drop (length T) (pieces_of ps)) (front_by r A placed)
