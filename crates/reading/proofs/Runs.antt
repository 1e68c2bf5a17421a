-- One call more at the end of a run.
use Rattle.std.proofs.Common.{◌≡◌, ℕ, ◌+◌, ◌<◌, List, [], ◌∷◌, ◌++◌, map, length, get_or, take}
use Rattle.std.proofs.Common.{drop, set, sym, ap, ◌∙◌, subst, arith}
use Rattle.std.specs.List.{AllZip}
use Rattle.std.proofs.lemmas.List.{map-append, take_more, take_more_set, drop-set-lt, drop-drop}
use Rattle.std.proofs.lemmas.Slice.Zip.{all_zipped_more}
use Rattle.sheet_text.specs.declared.row.Row.{Row}
use Rattle.reading.specs.declared.answers.Answer.{Answer}
use Rattle.reading.specs.declared.answers.Call.{Call}
use Rattle.reading.specs.Calls.{Replies, asked, said}
use Rattle.reading.specs.States.{State}
use Rattle.reading.specs.Steps.{Asked, Said, Run, done, more, Made}

module _ (text : List ℕ) (rows : List Row) where
  after : {s t u : State} {c : Asked} {a : Said} {cs : List Asked} {bs : List Said}
      → Run text rows s cs bs t → Made text rows t c a u
      → Run text rows s (cs ++ c ∷ []) (bs ++ a ∷ []) u
  after done k = more k done
  after (more j r) k = more j (after r k)

  pub run_more : {s t u : State} (cs : List Call) (as' : List Answer) (i : ℕ) (d : Call)
      (a : Answer)
      → i < length cs → i < length as'
      → Run text rows s (map asked (take i cs)) (map said (take i as')) t
      → Made text rows t (asked (get_or cs i d)) (said a) u
      → Run text rows s (map asked (take (i + 1) cs)) (map said (take (i + 1) (set as' i a))) u
  run_more {s} {t} {u} cs as' i d a h k r made =
      let f : map asked (take i cs) ++ asked (get_or cs i d) ∷ [] ≡ map asked (take (i + 1) cs)
      = sym (ap (map asked) (take_more cs i d h)
      ∙ map-append asked (take i cs) (get_or cs i d ∷ [])) in
      let g : map said (take i as') ++ said a ∷ [] ≡ map said (take (i + 1) (set as' i a))
      = sym (ap (map said) (take_more_set as' i a k) ∙ map-append said (take i as') (a ∷ [])) in
      subst (λ x. Run text rows s x (map said (take (i + 1) (set as' i a))) u) f
      (subst (λ y. Run text rows s (map asked (take i cs) ++ asked (get_or cs i d) ∷ []) y u) g
      (after r made))

pub rest_more : (as' bs : List Answer) (i : ℕ) (a : Answer) → drop i as' ≡ drop i bs
    → drop (i + 1) (set as' i a) ≡ drop (i + 1) bs
rest_more as' bs i a e = drop-set-lt (i + 1) as' i a (omega arith) ∙ sym (drop-drop 1 i as')
    ∙ ap (drop 1) e ∙ drop-drop 1 i bs

pub replies_more : (cs : List Call) (as' : List Answer) (i : ℕ) (d : Call) (a : Answer)
    → i < length cs → i < length as'
    → AllZip Replies (take i cs) (take i as') → Replies (get_or cs i d) a
    → AllZip Replies (take (i + 1) cs) (take (i + 1) (set as' i a))
replies_more cs as' i d a h k so r =
    subst (λ xs. AllZip Replies xs (take (i + 1) (set as' i a))) (sym (take_more cs i d h))
    (subst (λ ys. AllZip Replies (take i cs ++ get_or cs i d ∷ []) ys)
    (sym (take_more_set as' i a k))
    (all_zipped_more Replies _ _ _ _ so r))
