-- What opening the row in front comes to, by its word.
use Rattle.meaning.specs.declared.fault.LayFault.TheVariants as fault
use Rattle.std.proofs.Common.{◌≡◌, ℕ, ◌+◌, ◌≤◌, Bool, true, false, cond, leb, List, ◌∷◌, Some, None}
use Rattle.std.proofs.Common.{Ok, Err, refl, ap, ◌∙◌, arith, mul-le-mul_right, leb-true, Option}
use Rattle.path.specs.Meaning.{element}
use Rattle.sheet.specs.Checks.{target, row_at}
use Rattle.sheet.specs.Verdict.{lawful}
use Rattle.sheet_text.specs.declared.row.Row.{Row}
use Rattle.sheet_text.specs.declared.word.Base.{Base}
use Rattle.sheet_text.specs.declared.word.Word.TheVariants as word
use Rattle.sheet_text.specs.declared.word.TypeWord.TheVariants as type
use Rattle.meaning.specs.Terms.{Path, PieceSpec, Ty, base, void, Number}
use Rattle.meaning.specs.Stands.{type_at, number_at, truth_at}
use Rattle.meaning.specs.Values.{Outcome, number, truth, Message, elements_of}
use Rattle.meaning.specs.Layouts.{◌▸◌}
use Rattle.meaning.specs.Matcher.{Laid, refused, needed, repeated, put_piece, lay, so_many}
use Rattle.laws.specs.Nesting.{depth}
use Rattle.walk.specs.Frames.{in_front, in_record, in_array, through}
use Rattle.walk.specs.Turns.{turns, Shallow}
use Rattle.walk.specs.Walks.{StandsIn, needed_value, count_by, counted}
use Rattle.laws.proofs.Complete.{needed_step, many_step}
use Rattle.walk.proofs.Rows.{is_base, is_rec, is_arr, is_alt, is_void}
use Rattle.sheet_text.specs.Columns.{number_in}
use Rattle.meaning.specs.Bars.{Bars}
use Rattle.meaning.specs.declared.fault.LayFault.{LayFault}

value_needed : {V : Type 0} (x : Outcome V) (r : ℕ) (A : List PieceSpec) (f : V → Laid) (v : V)
    → needed_value x ≡ Ok v → needed x r A f ≡ f v
value_needed (Ok w) r A f v e = let s : w ≡ v = cc in ap f s
value_needed (Err e) r A f v h = absurd (let z : ◌≡◌ {A = ℕ} 0 1 = cc in omega arith)

none_needed : {V : Type 0} (x : Outcome V) (r : ℕ) (A : List PieceSpec) (f : V → Laid)
    (e : LayFault)
    → needed_value x ≡ Err e → needed x r A f ≡ refused e r A
none_needed (Ok w) r A f e h = absurd (let z : ◌≡◌ {A = ℕ} 0 1 = cc in omega arith)
none_needed (Err g) r A f e h = let s : fault.Eval g ≡ e = cc in ap (λ y. refused y r A) s

-- an array's number, and how many elements that is
abbrev some_elements : Outcome Number → ℕ → List PieceSpec → (ℕ → Laid) → Laid
some_elements x r A f = needed x r A λ z. so_many (elements_of z) r A f

counted_is : (o : Option ℕ) (d : ℕ) → count_by o ≡ Ok d → o ≡ Some d
counted_is (Some c) d e = let s : c ≡ d = cc in ap Some s
counted_is None d e = absurd (let z : ◌≡◌ {A = ℕ} 0 1 = cc in omega arith)

pub few_elements : (z : Number) (d : ℕ) → elements_of z ≡ Some d → d ≤ 65535
few_elements z d e = go (leb z 65535) refl e
  where
    go : (b : Bool) → leb z 65535 ≡ b → ◌≡◌ {A = Option ℕ} (cond b (Some z) None) (Some d)
        → d ≤ 65535
    go true h k = let s : z ≡ d = cc in omega (arith, leb-true z 65535 h, s)
    go false h k = absurd (let y : ◌≡◌ {A = ℕ} 0 1 = cc in omega arith)

-- so there are as many, by a number that an array can have
pub number_is : (x : Outcome Number) (d : ℕ) → counted x ≡ Ok d
    → (z : Number) × (x ≡ Ok z) × (elements_of z ≡ Some d)
number_is (Ok z) d e = (z, refl, counted_is (elements_of z) d e)
number_is (Err g) d e = absurd (let y : ◌≡◌ {A = ℕ} 0 1 = cc in omega arith)

known_count : (x : Outcome Number) (r : ℕ) (A : List PieceSpec) (f : ℕ → Laid) (d : ℕ)
    → counted x ≡ Ok d
    → (some_elements x r A f ≡ f d) × (d ≤ 65535)
known_count x r A f d e =
    let (z, is, some) = number_is x d e in (
      needed_step x r A _ z _ is (many_step (elements_of z) r A f d _ some refl),
      few_elements z d
          some,
    )

count_refused : (o : Option ℕ) (r : ℕ) (A : List PieceSpec) (f : ℕ → Laid) (e : LayFault)
    → count_by o ≡ Err e → so_many o r A f ≡ refused e r A
count_refused (Some d) r A f e h = absurd (let z : ◌≡◌ {A = ℕ} 0 1 = cc in omega arith)
count_refused None r A f e h = let s : fault.TooMany ≡ e = cc in ap (λ y. refused y r A) s

unknown_count : (x : Outcome Number) (r : ℕ) (A : List PieceSpec) (f : ℕ → Laid) (e : LayFault)
    → counted x ≡ Err e → some_elements x r A f ≡ refused e r A
unknown_count (Ok z) r A f e h = count_refused (elements_of z) r A f e h
unknown_count (Err g) r A f e h = let s : fault.Eval g ≡ e = cc in ap (λ y. refused y r A) s

module _ (text : List ℕ) (rows : List Row) (ok : lawful text rows ≡ true) (r : ℕ) (x : Row)
    (here : x ≡ row_at rows r)
    (message : Message) (bars : Bars) (P : Path) (O : List Path) (A : List PieceSpec) where
  as_type : (τ : Ty) → type_at text rows r ≡ τ
      → through text rows message bars (in_front P O r) A ≡ lay message bars τ P O A
  as_type τ e = ap (λ (y : Ty). lay message bars y P O A) e

  pub front_base : (b : Base) → x.word ≡ word.Type (type.Base b)
      → through text rows message bars (in_front P O r) A ≡ put_piece bars P r b A
  front_base b e = as_type (base r b) (is_base text rows ok r x here b e)

  pub front_void : ((b : Base) → ¬ (x.word ≡ word.Type (type.Base b)))
      → ¬ (x.word ≡ word.Type type.Rec) → ¬ (x.word ≡ word.Type type.Arr)
      → ¬ (x.word ≡ word.Type type.Alt)
      → through text rows message bars (in_front P O r) A ≡ refused fault.Void r A
  front_void p q s t = as_type (void r) (is_void text rows ok r x here p q s t)

  module _ (n : ℕ) (shallow : Shallow text rows (in_front P O r) n) where
    pub front_rec : x.word ≡ word.Type type.Rec
        → StandsIn text rows message bars A n (in_front P O r)
        (in_record P (P ∷ O) (number_in x.one))
    front_rec e =
        let t = is_rec text rows ok r x here e in
        let d = ap depth t.0 in
        let more = ap turns t.0 in
        record {
          same = as_type _ t.0;
          shallow = (omega (arith, shallow.0, d), omega (arith, shallow.1), shallow.2, t.1);
          fewer = omega (arith, more);
        }

    pub front_arr : (d : ℕ) → x.word ≡ word.Type type.Arr
        → counted (number message A O (number_at text rows (target x.two))) ≡ Ok d
        → StandsIn text rows message bars A n (in_front P O r) (in_array P O (target x.one) 0 d)
    front_arr d e c =
        let t = is_arr text rows ok r x here e in
        let k = known_count (number message A O (number_at text rows (target x.two))) r A
        (λ d. repeated
        (λ i B. lay message bars (type_at text rows (target x.one)) (P ▸ element i) O B) 0 d A)
        d c in
        let z = ap depth t.0 in
        let more = ap turns t.0 in
        record {
          same = as_type _ t.0 ∙ k.0;
          shallow = (omega (arith, shallow.0, z), shallow.1, shallow.2, t.1);
          fewer = omega
              (arith, more, mul-le-mul_right (1 + turns (type_at text rows (target x.one))) k.1);
        }

    pub front_alt : (b : Bool) → x.word ≡ word.Type type.Alt
        → needed_value (truth message A O (truth_at text rows (target x.one))) ≡ Ok b
        → StandsIn text rows message bars A n (in_front P O r)
        (in_front P O (cond b (target x.two) (target x.three)))
    front_alt b e c =
        let t = is_alt text rows ok r x here e in
        let z = ap depth t.0 in
        let more = ap turns t.0 in
        let k = as_type _ t.0 ∙ value_needed (truth message A O (truth_at text rows (target x.one)))
        r A (λ c. cond c (lay message bars (type_at text rows (target x.two)) P O A)
        (lay message bars (type_at text rows (target x.three)) P O A)) b c in
        elim b as (λ (c : Bool). through text rows message bars (in_front P O r) A
        ≡ cond c (lay message bars (type_at text rows (target x.two)) P O A)
        (lay message bars (type_at text rows (target x.three)) P O A)
        → StandsIn text rows message bars A n (in_front P O r)
        (in_front P O (cond c (target x.two) (target x.three)))) [
          | true ↦ λ k. record {
            same = k;
            shallow =
                (omega (arith, shallow.0, z), shallow.1, shallow.2, t.1);
            fewer =
                omega (arith, more);
          }
          | false ↦ λ k. record {
            same = k;
            shallow =
                (omega (arith, shallow.0, z), shallow.1, shallow.2, t.2);
            fewer =
                omega (arith, more);
          }
        ] k

  pub refused_arr : (f : LayFault) → x.word ≡ word.Type type.Arr
      → counted (number message A O (number_at text rows (target x.two))) ≡ Err f
      → through text rows message bars (in_front P O r) A ≡ refused f r A
  refused_arr f e c = as_type _ (is_arr text rows ok r x here e).0
      ∙ unknown_count (number message A O (number_at text rows (target x.two))) r A
      (λ d. repeated
      (λ i B. lay message bars (type_at text rows (target x.one)) (P ▸ element i) O B) 0 d A) f
      c

  pub refused_alt : (f : LayFault) → x.word ≡ word.Type type.Alt
      → needed_value (truth message A O (truth_at text rows (target x.one))) ≡ Err f
      → through text rows message bars (in_front P O r) A ≡ refused f r A
  refused_alt f e c = as_type _ (is_alt text rows ok r x here e).0
      ∙ none_needed (truth message A O (truth_at text rows (target x.one))) r A
      (λ b. cond b (lay message bars (type_at text rows (target x.two)) P O A)
      (lay message bars (type_at text rows (target x.three)) P O A)) f c
