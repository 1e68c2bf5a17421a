-- Open rows without the parts that are quiet.
use Rattle.std.proofs.Common.{◌≡◌, ℕ, ◌+◌, ◌*◌, ◌<◌, ◌≤◌, false, List, [], get_or, replicate, Some}
use Rattle.std.proofs.Common.{sym, refl, ap, ◌∙◌, subst, arith, ⊎_elim}
use Rattle.std.proofs.lemmas.Bool.{cases_lt, false≢true}
use Rattle.std.proofs.lemmas.List.{get_or-replicate, get_or_past, length-replicate}
use Rattle.path.specs.Meaning.{field, element}
use Rattle.sheet.specs.Checks.{target, row_at}
use Rattle.sheet.specs.Fields.{name_in}
use Rattle.sheet.specs.Sheets.{rows_of, text_of}
use Rattle.sheet.specs.declared.checked.CheckedSheet.{CheckedSheet}
use Rattle.sheet.specs.declared.rule.Family.TheVariants as family
use Rattle.sheet_text.specs.declared.row.Row.{Row}
use Rattle.sheet_text.specs.declared.word.Word.TheVariants as word
use Rattle.meaning.specs.Terms.{Path, PieceSpec}
use Rattle.meaning.specs.Stands.{type_at}
use Rattle.meaning.specs.Values.{Message}
use Rattle.meaning.specs.Layouts.{◌▸◌}
use Rattle.meaning.specs.Matcher.{lay, lay_fields}
use Rattle.laws.specs.Nesting.{depth_fields}
use Rattle.laws.proofs.Checked.{later_ref}
use Rattle.laws.proofs.Complete.{onward_step}
use Rattle.laws.proofs.Quiet.{none_placed, quiet_passes}
use Rattle.walk.specs.Frames.{Open, in_record, in_array, through}
use Rattle.walk.specs.Turns.{turns, turns_fields, AllShallow}
use Rattle.walk.specs.Quieted.{QuietRow, Noted, StandsFor, Hushed}
use Rattle.walk.proofs.Quieting.{field_is}
use Rattle.walk.proofs.Rows.{leads_as, some_field}
use Rattle.sheet_text.specs.Columns.{number_in}

-- nothing is noted at first
none_noted : (n i : ℕ) → get_or (replicate n false) i false ≡ false
none_noted n i =
    ⊎_elim (λ (h : i < n). get_or-replicate n i false false h)
    (λ (h : n ≤ i). get_or_past (replicate n false) i false
    (let l = length-replicate n false in omega (arith, l)))
    (cases_lt i n)

pub noted_nothing : (s : CheckedSheet) (message : Message) (A : List PieceSpec) (O : List Path)
    (n : ℕ) → Noted s message A O (replicate n false)
noted_nothing s message A O n = record
    { quiet = λ r k h e. absurd (false≢true (sym (none_noted n _) ∙ e)) }

module _ (text : List ℕ) (rows : List Row) (message : Message) (A : List PieceSpec) where
  pub stands_all : (e : Open) → StandsFor text rows message A e e
  stands_all e = record { same = λ bars. refl; shallow = λ n h. h; no_more = omega arith }

  pub stands_on : (e f g : Open) → StandsFor text rows message A e f
      → StandsFor text rows message A f g → StandsFor text rows message A e g
  stands_on e f g a b =
      record {
        same = λ bars. a.same bars ∙ b.same bars;
        shallow = λ n h. b.shallow n (a.shallow n h);
        no_more = omega (arith, a.no_more, b.no_more);
      }

  pub hushed_none : (K L : List Open) → L ≡ K → AllShallow text rows K
      → Hushed text rows message A K L
  hushed_none K L e h = subst (Hushed text rows message A K) (sym e)
      (record { same = λ bars. refl; shallow = h; no_more = omega arith })

module _ (s : CheckedSheet) (message : Message) (A : List PieceSpec) (P : Path)
    (O : List Path) where
  -- a record behind a quiet field
  pub record_on : (r : ℕ) (x : Row) → x ≡ row_at (rows_of s) r → x.word ≡ word.Field
      → QuietRow s message A O 0 (target x.one)
      → StandsFor (text_of s) (rows_of s) message A (in_record P O (Some r))
      (in_record P O (number_in x.two))
  record_on r x here w q =
      let e = field_is s r x here w in
      let d = ap depth_fields e in
      let m = ap turns_fields e in
      let l = leads_as (text_of s) (rows_of s) s.ok r x here word.Field w in
      record {
        same = λ bars.
            ap (λ fs. lay_fields message bars fs P O A) e
            ∙ onward_step _ _ A _
            (quiet_passes message bars A O [] (P ▸ field (name_in (text_of s) x.name)) refl q)
            refl;
        shallow =
            λ n h. (
              omega (arith, h.0, d),
              h.1,
              h.2,
              some_field (rows_of s) r (number_in x.two)
                  (later_ref (rows_of s) r family.Field x.two l.1),
            );
        no_more = omega (arith, m);
      }

  -- an array behind quiet elements
  pub array_on : (t i k j m : ℕ) → m ≡ 0 → QuietRow s message A O 0 t
      → StandsFor (text_of s) (rows_of s) message A (in_array P O t i k) (in_array P O t j m)
  array_on t i k j m z q =
      let none = ap (λ m. m * (1 + turns (type_at (text_of s) (rows_of s) t))) z in
      record {
        same = λ bars.
            none_placed
            (λ i B. lay message bars (type_at (text_of s) (rows_of s) t) (P ▸ element i) O B) A
            (λ i. quiet_passes message bars A O [] (P ▸ element i) refl q) i k
            ∙ ap (λ m. through (text_of s) (rows_of s) message bars (in_array P O t j m) A) (sym z);
        shallow = λ n h. h;
        no_more = omega (arith, none);
      }
