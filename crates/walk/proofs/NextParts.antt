-- What open records and arrays come to, by their next parts.
use Rattle.std.proofs.Common.{◌≡◌, ℕ, suc, ◌+◌, ◌*◌, ◌<◌, true, List, [], ◌∷◌, length, Some, None}
use Rattle.std.proofs.Common.{sym, refl, ap, ◌∙◌, arith, length-append}
use Rattle.path.specs.Meaning.{field, element}
use Rattle.sheet.specs.Checks.{target, row_at}
use Rattle.sheet.specs.Fields.{name_in}
use Rattle.sheet.specs.Verdict.{lawful}
use Rattle.sheet_text.specs.declared.row.Row.{Row}
use Rattle.meaning.specs.Terms.{Path, PieceSpec}
use Rattle.meaning.specs.Stands.{type_at}
use Rattle.meaning.specs.Layouts.{◌▸◌}
use Rattle.meaning.specs.Matcher.{Laid, accepted, refused, ◌onward◌, lay, lay_fields}
use Rattle.laws.specs.Nesting.{depth_fields}
use Rattle.walk.specs.Frames.{Open, in_front, in_record, in_array, resume}
use Rattle.walk.specs.Turns.{turns, turns_fields, AllShallow}
use Rattle.walk.specs.Walks.{Parts}
use Rattle.walk.proofs.Rows.{is_field, no_fields}
use Rattle.sheet_text.specs.Columns.{number_in}

onward_assoc : (x : Laid) (f g : List PieceSpec → Laid)
    → ((x onward f) onward g) ≡ (x onward (λ A. f A onward g))
onward_assoc (accepted A) f g = refl
onward_assoc (refused e r A) f g = refl

module _ (text : List ℕ) (rows : List Row) (ok : lawful text rows ≡ true) (P : Path) (O : List Path)
    (K : List Open) where
  pub record_end : AllShallow text rows (in_record P O None ∷ K)
      → Parts text rows (in_record P O None ∷ K) K
  record_end h =
      let e = no_fields text rows ok in
      record {
        same = λ message bars A. ap
            (λ fs. lay_fields message bars fs P O A onward resume text rows message bars K) e;
        shallow = h.1;
        fewer = omega arith;
      }

  -- a record with a field to come has room for a step
  pub room_below : (f : ℕ) (x : Row) → x ≡ row_at rows f
      → AllShallow text rows (in_record P O (Some f) ∷ K) → length P < 8
  room_below f x here h = let d = ap depth_fields (is_field text rows ok f x here h.0.3).0 in
      omega (arith, h.0.0, d)

  pub record_next : (f : ℕ) (x : Row) → x ≡ row_at rows f
      → AllShallow text rows (in_record P O (Some f) ∷ K)
      → Parts text rows (in_record P O (Some f) ∷ K)
      (in_front (P ▸ field (name_in text x.name)) O (target x.one) ∷ in_record P O
      (number_in x.two) ∷ K)
  record_next f x here h =
      let e = is_field text rows ok f x here h.0.3 in
      let d = ap depth_fields e.0 in
      let m = ap turns_fields e.0 in
      let l = length-append P (field (name_in text x.name) ∷ []) in
      record {
        same = λ message bars A.
            ap (λ fs. lay_fields message bars fs P O A onward resume text rows message bars K) e.0
            ∙ onward_assoc
            (lay message bars (type_at text rows (target x.one))
            (P ▸ field (name_in text x.name)) O A) _ _;
        shallow = (
          (omega (arith, h.0.0, d, l), omega (arith, h.0.1, l), omega (arith, h.0.2, l), e.2),
          ((omega (arith, h.0.0, d), h.0.1, h.0.2, e.3), h.1),
        );
        fewer = omega (arith, m);
      }

  pub array_end : (t i n : ℕ) → n ≡ 0 → AllShallow text rows (in_array P O t i n ∷ K)
      → Parts text rows (in_array P O t i n ∷ K) K
  array_end t i n e h =
      record {
        same = λ message bars A.
            ap (λ m. resume text rows message bars (in_array P O t i m ∷ K) A) e;
        shallow = h.1;
        fewer = omega arith;
      }

  pub array_next : (t i j n k : ℕ) → n ≡ suc k → j ≡ suc i
      → AllShallow text rows (in_array P O t i n ∷ K)
      → Parts text rows (in_array P O t i n ∷ K)
      (in_front (P ▸ element i) O t ∷ in_array P O t j k ∷ K)
  array_next t i j n k e g h =
      let l = length-append P (element i ∷ []) in
      let m = ap (λ z. z * (1 + turns (type_at text rows t))) e in
      record {
        same = λ message bars A.
            ap (λ m. resume text rows message bars (in_array P O t i m ∷ K) A) e
            ∙ onward_assoc (lay message bars (type_at text rows t) (P ▸ element i) O A) _ _
            ∙ ap (λ y. resume text rows message bars
            (in_front (P ▸ element i) O t ∷ in_array P O t y k ∷ K) A) (sym g);
        shallow = (
          (omega (arith, h.0.0, l), omega (arith, h.0.1, l), omega (arith, h.0.2, l), h.0.3),
          ((h.0.0, h.0.1, h.0.2, h.0.3), h.1),
        );
        fewer = omega (arith, m);
      }
