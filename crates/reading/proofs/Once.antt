-- Steps and runs are decided by the state and the calls.
use Rattle.std.proofs.Common.{◌≡◌, ℕ, List, ◌∷◌, ◌++◌, length, drop, Some, None, sym, refl, ap, ◌∙◌}
use Rattle.std.proofs.Common.{subst, arith}
use Rattle.sheet_text.specs.declared.row.Row.{Row}
use Rattle.meaning.specs.Terms.{PieceSpec, total}
use Rattle.meaning.specs.Matcher.{refused}
use Rattle.meaning.specs.Refusals.{fault_told, reached}
use Rattle.laws.proofs.Stops.{stops_decide}
use Rattle.laws.proofs.Unique.{one_reading}
use Rattle.reading.specs.States.{State}
use Rattle.reading.specs.Steps.{Asked, Task, Said, covers, refuses, Done, found, not_wide, not_put}
use Rattle.reading.specs.Steps.{put'}
use Rattle.reading.specs.Steps.{Step, laid, stopped, lifted, missing, meets, Run, done, more}

module _ (text : List ℕ) (rows : List Row) where
  done_once : {s t u : State} {p : PieceSpec} {k : Task} {a b : Said} → Done text rows s p k a t
      → Done text rows s p k b u
      → (a ≡ b) × (t ≡ u)
  done_once found found = (refl, refl)
  done_once (not_wide n) (not_wide m) = (refl, refl)
  done_once (not_wide n) (not_put w m) = absurd (n w)
  done_once (not_wide n) (put' w r) = absurd (n w)
  done_once (not_put w n) (not_wide m) = absurd (m w)
  done_once (not_put w n) (not_put v m) = (refl, refl)
  done_once (not_put w n) (put' v r) = absurd (n r)
  done_once (put' w r) (not_wide m) = absurd (m w)
  done_once (put' w r) (not_put v n) = absurd (n r)
  done_once (put' w r) (put' v q) = (refl, refl)

  step_once : {s t u : State} {c : Asked} {a b : Said} → Step text rows s c a t
      → Step text rows s c b u → (a ≡ b) × (t ≡ u)
  step_once (laid {s = s} {T = T} r f) (laid {T = U} q g) =
      let same = one_reading text rows s.cells T U r q in (
        ap (λ (X : List PieceSpec). covers (length X) (total X)) same,
        λ i. record s {
          entries = same i ++ drop (length (same i)) s.entries;
          laid =
              Some (length (same i));
        },
      )
  step_once (laid {T = T} r f) (stopped none stops) = let more = none T r in absurd (omega arith)
  step_once (stopped none stops) (laid {T = T} r f) = let more = none T r in absurd (omega arith)
  step_once (stopped {s = s} {e = e} {r = r} {A = A} none stops)
      (stopped {e = f} {r = q} {A = B} neither so) =
      let is : refused e r A ≡ refused f q B
      = sym ((stops_decide text rows s.cells (length s.entries) e r A).1 stops)
      ∙ (stops_decide text rows s.cells (length s.entries) f q B).1 so in
      let fault : e ≡ f = cc in
      let row : r ≡ q = cc in
      let same : A ≡ B = cc in (
        λ i. refuses (reached (row i) (same i) (fault_told (fault i))) (Some (fault i)),
        λ i. record s { entries = same i ++ drop (length (same i)) s.entries; laid = None },
      )
  step_once (missing e) (missing f) = (refl, refl)
  step_once (missing e) (meets {p = p} f d) =
      let named : None ≡ Some p = sym e ∙ f in absurd (let z : ◌≡◌ {A = ℕ} 0 1 = cc in omega arith)
  step_once (meets {p = p} f d) (missing e) =
      let named : None ≡ Some p = sym e ∙ f in absurd (let z : ◌≡◌ {A = ℕ} 0 1 = cc in omega arith)
  step_once (meets {s = s} {t = t} {p = p} {k = k} {a = a} e d) (meets {p = p'} f d') =
      let named : Some p ≡ Some p' = sym e ∙ f in
      let same : p ≡ p' = cc in
      done_once (subst (λ x. Done text rows s x k a t) same d) d'
  step_once lifted lifted = (refl, refl)

  pub run_once : (s t u : State) (cs : List Asked) (as' bs : List Said) → Run text rows s cs as' t
      → Run text rows s cs bs u
      → (as' ≡ bs) × (t ≡ u)
  run_once s t u cs as' bs done done = (refl, refl)
  run_once s t u cs as' bs (more {cs = ds} {as' = xs} m r) (more {as' = ys} n q) =
      let o = step_once m.step n.step in
      let k = run_once _ t u ds xs ys r (subst (λ x. Run text rows x ds ys u) (sym o.1) q) in
      (λ i. o.0 i ∷ k.0 i, k.1)
