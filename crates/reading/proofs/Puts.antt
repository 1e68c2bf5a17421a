-- A put as a step.
use Rattle.std.proofs.Common.{◌≡◌, ◌↔◌, ℕ, Bool, true, false, cond, List, length, Some, None, Ok}
use Rattle.std.proofs.Common.{Err, Option, Result, ◌==◌, sym, refl, ap, ◌∙◌, subst, eqb-true, arith}
use Rattle.std.proofs.lemmas.Bool.{cond-true, eq-eqb}
use Rattle.told.specs.Answers.{Answer, given, refused, as_told, bare}
use Rattle.cells.specs.declared.cell.Cell.{Cell}
use Rattle.cells.specs.Changed.{with_bytes}
use Rattle.sheet_text.specs.declared.row.Row.{Row}
use Rattle.meaning.specs.Terms.{PieceSpec}
use Rattle.meaning.specs.Readings.{Reads}
use Rattle.laws.specs.Rereads.{reread}
use Rattle.laws.proofs.Rereads.{reread_decides}
use Rattle.reading.specs.Calls.{put_said}
use Rattle.reading.specs.declared.refusals.PutRefusal.{PutRefusal}
use Rattle.reading.specs.Outcomes.{meant, or_refused, with_piece, put_as, put_of, put_leaves}
use Rattle.reading.specs.Refusals.{put_told}
use Rattle.reading.specs.Puts.{PutsReading}
use Rattle.reading.specs.States.{State, kept, named, absent}
use Rattle.reading.specs.Steps.{Said, accepts, refuses, Made, Done, Step, on, put, put', not_put}
use Rattle.reading.specs.Steps.{not_wide, missing, meets}
use Rattle.reading.proofs.Settling.{made}

-- what a put that is so told says
abbrev said_as : Answer Unit → Said
said_as (given x) = accepts
said_as (refused t) = refuses t None

same_said : (r : Result (Unit {0}) PutRefusal) → said_as (as_told put_told r) ≡ put_said r
same_said (Ok u) = refl
same_said (Err e) = refl

not_equal : (m n : ℕ) → (m == n) ≡ false → ¬ (m ≡ n)
not_equal m n e h = let f = eq-eqb m n h in let z : ◌≡◌ {A = ℕ} 0 1 = cc in omega arith

module _ (text : List ℕ) (rows : List Row) (cells : List Cell) (T : List PieceSpec)
    (path bytes : List ℕ) where
  abbrev state : List Cell → Option ℕ → State
  state after o = record { cells = after; entries = T; laid = o }

  reread_false : (T : List PieceSpec) (cs : List Cell) → reread text rows cs T ≡ false
      → ¬ Reads text rows cs T
  reread_false T cs e r = let f = (reread_decides text rows cs T).1 r in
      let z : ◌≡◌ {A = ℕ} 0 1 = cc in omega arith

  done_by : (o : Option ℕ) (p : PieceSpec) (b c : Bool) → (length bytes == p.width) ≡ b
      → reread text rows (with_bytes cells p.place bytes) (kept o T) ≡ c
      → Done text rows (state cells o) p (put bytes)
      (said_as (cond b (cond c (given tt) (refused (bare 24))) (refused (bare 23))))
      (state (put_leaves (given p)
      (cond b (cond c (given tt) (refused (bare 24))) (refused (bare 23))) cells bytes) o)
  done_by o p true true w r = put' (eqb-true (length bytes) p.width w)
      ((reread_decides text rows (with_bytes cells p.place bytes) (kept o T)).0 r)
  done_by o p true false w r = not_put (eqb-true (length bytes) p.width w)
      (reread_false (kept o T) (with_bytes cells p.place bytes) r)
  done_by o p false c w r = not_wide (not_equal (length bytes) p.width w)

  step_by : (o : Option ℕ) (q : Option PieceSpec) → named (kept o T) path ≡ q
      → Step text rows (state cells o) (on path (put bytes))
      (said_as (with_piece (or_refused (absent o) q) (put_as text rows cells (kept o T) bytes)))
      (state (put_leaves (or_refused (absent o) q)
      (with_piece (or_refused (absent o) q) (put_as text rows cells (kept o T) bytes)) cells
      bytes) o)
  step_by o None e = missing e
  step_by o (Some p) e =
      meets e (done_by o p (length bytes == p.width)
      (reread text rows (with_bytes cells p.place bytes) (kept o T)) refl refl)

  pub put_made : (o : Option ℕ) (r : Result (Unit {0}) PutRefusal) (after : List Cell)
      (U : List PieceSpec)
      → as_told put_told r ≡ put_of text rows cells o T path bytes
      → after ≡ put_leaves (meant o T path) (as_told put_told r) cells bytes → U ≡ T
      → Made text rows (state cells o) (on path (put bytes)) (put_said r)
      (record { cells = after; entries = U; laid = o })
  put_made o r after U e f g =
      let there : after ≡ put_leaves (meant o T path) (put_of text rows cells o T path bytes) cells
      bytes
      = f ∙ ap (λ (b : Answer Unit). put_leaves (meant o T path) b cells bytes) e in
      made text rows
      (subst (λ a. Step text rows (state cells o) (on path (put bytes)) a
      (record { cells = after; entries = U; laid = o }))
      (sym (ap said_as e) ∙ same_said r)
      (subst (λ t. Step text rows (state cells o) (on path (put bytes))
      (said_as (put_of text rows cells o T path bytes)) t)
      (λ i. record { cells = sym there i; entries = sym g i; laid = o })
      (step_by o (named (kept o T) path) refl)))

  reads_by : (U : List PieceSpec) (cs : List Cell) (c : Bool) → reread text rows cs U ≡ c
      → ((◌≡◌ {A = Answer Unit} (cond c (given tt) (refused (bare 24))) (given tt))
      ↔ Reads text rows cs U)
      × ((◌≡◌ {A = Answer Unit} (cond c (given tt) (refused (bare 24))) (refused (bare 24)))
      ↔ ¬ Reads text rows cs U)
  reads_by U cs true e = (
    (λ a. (reread_decides text rows cs U).0 e, λ r. refl),
    (
      λ a. absurd (let z : ◌≡◌ {A = ℕ} 0 1 = cc in omega arith),
      λ n.
          absurd (n ((reread_decides text rows cs U).0 e)),
    ),
  )
  reads_by U cs false e = (
    (
      λ a. absurd (let z : ◌≡◌ {A = ℕ} 0 1 = cc in omega arith),
      λ r.
          absurd (reread_false U cs e r),
    ),
    (λ a. reread_false U cs e, λ n. refl),
  )

  -- of the right width, to a kept piece
  pub puts_reading : (o : Option ℕ) (a : Answer Unit) → a ≡ put_of text rows cells o T path bytes
      → PutsReading text rows cells o T path bytes a
  puts_reading o a e p is wide =
      let read = reread text rows (with_bytes cells p.place bytes) (kept o T) in
      let by : a ≡ cond read (given tt) (refused (bare 24))
      = e ∙ ap (λ m. with_piece m (put_as text rows cells (kept o T) bytes)) is
      ∙ cond-true (length bytes == p.width) (cond read (given tt) (refused (bare 24)))
      (refused (bare 23)) (eq-eqb (length bytes) p.width wide) in
      subst (λ b. ((b ≡ given tt) ↔ Reads text rows (with_bytes cells p.place bytes) (kept o T))
      × ((b ≡ refused (bare 24))
      ↔ ¬ Reads text rows (with_bytes cells p.place bytes) (kept o T)))
      (sym by) (reads_by (kept o T) (with_bytes cells p.place bytes) read refl)
