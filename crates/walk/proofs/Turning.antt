-- What a turn comes to, over the rows that are open around the one in front.
use Rattle.meaning.specs.Values.{Message}
use Rattle.std.proofs.Common.{◌≡◌, ℕ, ◌+◌, ◌<◌, ◌≤◌, List, [], ◌∷◌, ◌++◌, length, sym, ap}
use Rattle.std.proofs.Common.{◌∙◌, arith, Some, None}
use Rattle.sheet_text.specs.declared.row.Row.{Row}
use Rattle.sheet_text.specs.declared.word.Base.{Base}
use Rattle.sheet_text.specs.Table.{width_of}
use Rattle.meaning.specs.Terms.{Path, PieceSpec, total, Ty, base, void, rec, arr, alt}
use Rattle.meaning.specs.Stands.{type_at}
use Rattle.meaning.specs.Layouts.{piece_at}
use Rattle.meaning.specs.Matcher.{accepted, refused, ◌onward◌, unless, put_piece}
use Rattle.laws.proofs.Complete.{unless_step}
use Rattle.laws.proofs.Prefix.{total_append}
use Rattle.walk.specs.Frames.{Open, in_front, through, resume}
use Rattle.walk.specs.Turns.{turns, AllShallow}
use Rattle.walk.specs.Walks.{StandsIn, Turned, Reached}
use Rattle.meaning.specs.Bars.{Bars}
use Rattle.meaning.specs.declared.fault.LayFault.{LayFault}

some_turns : (τ : Ty) → 0 < turns τ
some_turns (base r w) = omega arith
some_turns (void r) = omega arith
some_turns (rec r fs) = omega arith
some_turns (arr r n τ) = omega arith
some_turns (alt r t τ σ) = omega arith

module _ (text : List ℕ) (rows : List Row) (message : Message) (bars : Bars) (K : List Open)
    (A : List PieceSpec) where
  pub base_turned : (P : Path) (O : List Path) (r : ℕ) (B : List PieceSpec)
      → AllShallow text rows (in_front P O r ∷ K)
      → through text rows message bars (in_front P O r) A ≡ accepted B
      → Turned text rows message bars (in_front P O r ∷ K) A K B
  base_turned P O r B h e =
      record {
        same = ap (λ x. x onward resume text rows message bars K) e;
        shallow = h.1;
        fewer = omega (arith, some_turns (type_at text rows r));
      }

  pub part_turned : (e f : Open) → AllShallow text rows (e ∷ K)
      → StandsIn text rows message bars A (length K) e f
      → Turned text rows message bars (e ∷ K) A (f ∷ K) A
  part_turned e f h s =
      record {
        same = ap (λ x. x onward resume text rows message bars K) s.same;
        shallow = (s.shallow, h.1);
        fewer = omega (arith, s.fewer);
      }

  pub turn_refused : (e : Open) (f : LayFault) (r : ℕ)
      → through text rows message bars e A ≡ refused f r A
      → resume text rows message bars (e ∷ K) A ≡ refused f r A
  turn_refused e f r s = ap (λ x. x onward resume text rows message bars K) s

-- a base row that is taken, or not
module _ (bars : Bars) (P : Path) (r : ℕ) (w : Base) (A : List PieceSpec) (p : PieceSpec)
    (is : p ≡ piece_at A P r w) where
  pub put_taken : (B : List PieceSpec) → B ≡ A ++ p ∷ [] → bars A p ≡ None
      → put_piece bars P r w A ≡ accepted B
  put_taken B more taken =
      unless_step _ r A (piece_at A P r w) (ap (bars A) (sym is) ∙ taken)
      ∙ ap accepted (ap (λ q. A ++ q ∷ []) (sym is) ∙ sym more)

  pub put_barred : (e : LayFault) → bars A p ≡ Some e → put_piece bars P r w A ≡ refused e r A
  put_barred e barred = ap (λ o. unless o r A (piece_at A P r w)) (ap (bars A) (sym is) ∙ barred)

  pub reached_more : (B : List PieceSpec) → B ≡ A ++ p ∷ [] → (place : ℕ) → Reached A place
      → p.place + p.width ≤ 65535 → Reached B (place + width_of w)
  reached_more B more place h inside =
      let t = ap total more ∙ total_append A (p ∷ []) in
      let m = ap (λ (q : PieceSpec). q.width) is in
      let k = ap (λ (q : PieceSpec). q.place) is in
      record {
        placed = omega (arith, h.placed, t, m);
        inside =
            omega (arith, h.placed, inside, m, k);
      }
