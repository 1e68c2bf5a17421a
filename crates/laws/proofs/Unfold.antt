-- A row's term is the row over its references' terms.
use Rattle.std.proofs.Common.{◌≡◌, ℕ, zero, suc, ◌+◌, ◌<◌, ◌≤◌, List, length, Some, None, Option}
use Rattle.std.proofs.Common.{refl, ap, ap₂, arith}
use lib.ListN.{get_or-eq_default}
use Rattle.sheet.specs.Checks.{target, no_row, row_at}
use Rattle.sheet.specs.Fields.{name_in}
use Rattle.sheet.specs.Rules.{rule_of}
use Rattle.sheet.specs.declared.rule.Family.{Family}
use Rattle.sheet.specs.declared.rule.Family.TheVariants as family
use Rattle.sheet_text.specs.declared.row.Row.{Row}
use Rattle.sheet_text.specs.declared.row.Column.{Column}
use Rattle.sheet_text.specs.declared.row.Column.TheVariants as column
use Rattle.sheet_text.specs.declared.word.Word.{Word}
use Rattle.sheet_text.specs.declared.word.Word.TheVariants as word
use Rattle.sheet_text.specs.declared.word.TypeWord.TheVariants as type
use Rattle.sheet_text.specs.declared.word.NumberWord.TheVariants as number
use Rattle.sheet_text.specs.declared.word.TruthWord.TheVariants as truth
use Rattle.sheet_text.specs.declared.word.StepWord.TheVariants as step
use Rattle.meaning.specs.Terms.{Num, loc, add, mul, Steps, end, dot, idx, Truth, not, both, either}
use Rattle.meaning.specs.Terms.{Ty, rec, arr, alt, Fields, none, fld}
use Rattle.meaning.specs.Forward.{BlankOrLater, Leads, Forward}
use Rattle.meaning.specs.Stands.{from_by, number_by, steps_by, truth_by, type_by, fields_by}
use Rattle.meaning.specs.Stands.{number_deep, steps_deep, number_at, steps_at, truth_deep, truth_at}
use Rattle.meaning.specs.Stands.{type_deep, fields_deep, type_at, fields_at}
use Rattle.laws.specs.Unfolds.{number_of, steps_of, truth_of, type_of, fields_of}
use Rattle.laws.specs.Laws.{RowsUnfold}
use Rattle.laws.proofs.Checked.{checked_forward}
use Rattle.sheet_text.specs.Columns.{number_in}

-- a reference leads behind row r
abbrev Ahead : ℕ → Option ℕ → Type 0
Ahead r None = Unit
Ahead r (Some a) = r < a

module _ (text : List ℕ) (rows : List Row) where
  ahead : (r : ℕ) (f : Family) (c : Column) → BlankOrLater rows r f c → Ahead r (number_in c)
  ahead r f column.Blank h = tt
  ahead r f (column.Number n) h = h.later
  ahead r f (column.Name s) h = absurd h

  further : (r a : ℕ) (o : Option ℕ) → r < a → Ahead a o → Ahead r o
  further r a None h k = tt
  further r a (Some b) h k = omega arith

  past : (r : ℕ) → length rows ≤ r → row_at rows r ≡ no_row
  past r h = get_or-eq_default rows no_row h

  from_same : {X : Type 0} (r a : ℕ) (w : Word) (c : Row) (S S' : Option ℕ → Steps)
      (f : ℕ → Steps → X) (z : X)
      → r < a → Leads rows a (rule_of w).two c.two → ((o : Option ℕ) → Ahead r o → S o ≡ S' o)
      → from_by w c S f z ≡ from_by w c S' f z
  from_same r a word.From c S S' f z l h g =
      ap (f (target c.one))
      (g (number_in c.two) (further r a (number_in c.two) l (ahead a family.Step c.two h)))
  from_same r a (word.Type w) c S S' f z l h g = refl
  from_same r a word.Field c S S' f z l h g = refl
  from_same r a (word.Number w) c S S' f z l h g = refl
  from_same r a (word.Truth w) c S S' f z l h g = refl
  from_same r a (word.Step w) c S S' f z l h g = refl

  module _ (forward : Forward rows) where
    number_same : (r : ℕ) (w : Word) (c : Row) (N N' : ℕ → Num) (S S' : Option ℕ → Steps)
        → Leads rows r (rule_of w).one c.one → Leads rows r (rule_of w).two c.two
        → ((a : ℕ) → r < a → N a ≡ N' a) → ((o : Option ℕ) → Ahead r o → S o ≡ S' o)
        → number_by text rows w c N S ≡ number_by text rows w c N' S'
    number_same r (word.Number number.Lit) c N N' S S' p q e g = refl
    number_same r (word.Number number.Loc) c N N' S S' p q e g =
        from_same r (target c.one) (row_at rows (target c.one)).word _ S S' loc _ p.later
        (forward (target c.one)).two g
    number_same r (word.Number number.Add) c N N' S S' p q e g =
        ap₂ add (e (target c.one) p.later) (e (target c.two) q.later)
    number_same r (word.Number number.Mul) c N N' S S' p q e g =
        ap₂ mul (e (target c.one) p.later) (e (target c.two) q.later)
    number_same r (word.Type w) c N N' S S' p q e g = refl
    number_same r word.Field c N N' S S' p q e g = refl
    number_same r (word.Truth w) c N N' S S' p q e g = refl
    number_same r word.From c N N' S S' p q e g = refl
    number_same r (word.Step w) c N N' S S' p q e g = refl

    steps_same : (r : ℕ) (w : Word) (c : Row) (N N' : ℕ → Num) (S S' : Option ℕ → Steps)
        → Leads rows r (rule_of w).one c.one → Leads rows r (rule_of w).two c.two
        → ((a : ℕ) → r < a → N a ≡ N' a) → ((o : Option ℕ) → Ahead r o → S o ≡ S' o)
        → steps_by text rows w c N S ≡ steps_by text rows w c N' S'
    steps_same r (word.Step step.Dot) c N N' S S' p q e g =
        ap (dot (name_in text c.name)) (g (number_in c.one) (ahead r family.Step c.one p))
    steps_same r (word.Step step.Idx) c N N' S S' p q e g =
        ap₂ idx (e (target c.one) p.later) (g (number_in c.two) (ahead r family.Step c.two q))
    steps_same r (word.Type w) c N N' S S' p q e g = refl
    steps_same r word.Field c N N' S S' p q e g = refl
    steps_same r (word.Number w) c N N' S S' p q e g = refl
    steps_same r (word.Truth w) c N N' S S' p q e g = refl
    steps_same r word.From c N N' S S' p q e g = refl

    -- as many turns as there are rows from the row on
    abbrev Enough : ℕ → Option ℕ → Type 0
    Enough k None = Unit
    Enough k (Some r) = length rows ≤ k + r

    fewer : (r k : ℕ) (o : Option ℕ) → length rows ≤ suc k + r → Ahead r o → Enough k o
    fewer r k None h a = tt
    fewer r k (Some b) h a = omega arith

    mutual
      number_turns : (j k r : ℕ) → length rows ≤ j + r → length rows ≤ k + r
          → number_deep text rows j r ≡ number_deep text rows k r
      number_turns zero zero r h g = refl
      number_turns zero (suc k) r h g = rw (past r (omega arith))
      number_turns (suc j) zero r h g = rw (past r (omega arith))
      number_turns (suc j) (suc k) r h g =
          number_same r (row_at rows r).word _ _ _ _ _ (forward r).one (forward r).two
          (λ a l. number_turns j k a (omega arith) (omega arith))
          (λ o l. steps_turns j k o (fewer r j o h l) (fewer r k o g l))

      steps_turns : (j k : ℕ) (o : Option ℕ) → Enough j o → Enough k o
          → steps_deep text rows j o ≡ steps_deep text rows k o
      steps_turns zero zero None h g = refl
      steps_turns zero zero (Some r) h g = refl
      steps_turns zero (suc k) None h g = refl
      steps_turns zero (suc k) (Some r) h g = rw (past r (omega arith))
      steps_turns (suc j) zero None h g = refl
      steps_turns (suc j) zero (Some r) h g = rw (past r (omega arith))
      steps_turns (suc j) (suc k) None h g = refl
      steps_turns (suc j) (suc k) (Some r) h g =
          steps_same r (row_at rows r).word _ _ _ _ _ (forward r).one (forward r).two
          (λ a l. number_turns j k a (omega arith) (omega arith))
          (λ o l. steps_turns j k o (fewer r j o h l) (fewer r k o g l))

    pub number_unfolds : (r : ℕ) → number_at text rows r ≡ number_of text rows (row_at rows r)
    unfolding number_at steps_at
    number_unfolds r = number_turns (length rows) (suc (length rows)) r (omega arith) (omega arith)

    pub steps_unfold : (r : ℕ) → steps_at text rows (Some r) ≡ steps_of text rows (row_at rows r)
    unfolding number_at steps_at
    steps_unfold r = steps_turns (length rows) (suc (length rows)) (Some r) (omega arith)
        (omega arith)

    pub steps_end : steps_at text rows None ≡ end
    unfolding steps_at
    steps_end = steps_turns (length rows) (suc (length rows)) None tt tt

    truth_same : (r : ℕ) (w : Word) (c : Row) (B B' : ℕ → Truth) (N : ℕ → Num)
        (S : Option ℕ → Steps)
        → Leads rows r (rule_of w).one c.one → Leads rows r (rule_of w).two c.two
        → ((a : ℕ) → r < a → B a ≡ B' a)
        → truth_by text rows w c B N S ≡ truth_by text rows w c B' N S
    truth_same r (word.Truth truth.True) c B B' N S p q e = refl
    truth_same r (word.Truth truth.False) c B B' N S p q e = refl
    truth_same r (word.Truth truth.Bloc) c B B' N S p q e = refl
    truth_same r (word.Truth truth.Not) c B B' N S p q e = ap not (e (target c.one) p.later)
    truth_same r (word.Truth truth.And) c B B' N S p q e =
        ap₂ both (e (target c.one) p.later) (e (target c.two) q.later)
    truth_same r (word.Truth truth.Or) c B B' N S p q e =
        ap₂ either (e (target c.one) p.later) (e (target c.two) q.later)
    truth_same r (word.Truth truth.Eq) c B B' N S p q e = refl
    truth_same r (word.Truth truth.Lt) c B B' N S p q e = refl
    truth_same r (word.Type w) c B B' N S p q e = refl
    truth_same r word.Field c B B' N S p q e = refl
    truth_same r (word.Number w) c B B' N S p q e = refl
    truth_same r word.From c B B' N S p q e = refl
    truth_same r (word.Step w) c B B' N S p q e = refl

    truth_turns : (j k r : ℕ) → length rows ≤ j + r → length rows ≤ k + r
        → truth_deep text rows j r ≡ truth_deep text rows k r
    truth_turns zero zero r h g = refl
    truth_turns zero (suc k) r h g = rw (past r (omega arith))
    truth_turns (suc j) zero r h g = rw (past r (omega arith))
    truth_turns (suc j) (suc k) r h g =
        truth_same r (row_at rows r).word _ _ _ _ _ (forward r).one (forward r).two
        (λ a l. truth_turns j k a (omega arith) (omega arith))

    pub truth_unfolds : (r : ℕ) → truth_at text rows r ≡ truth_of text rows (row_at rows r)
    unfolding truth_at
    truth_unfolds r = truth_turns (length rows) (suc (length rows)) r (omega arith) (omega arith)

    type_same : (r : ℕ) (w : Word) (c : Row) (T T' : ℕ → Ty) (F F' : Option ℕ → Fields)
        (N : ℕ → Num) (B : ℕ → Truth)
        → Leads rows r (rule_of w).one c.one → Leads rows r (rule_of w).two c.two
        → Leads rows r (rule_of w).three c.three
        → ((a : ℕ) → r < a → T a ≡ T' a) → ((o : Option ℕ) → Ahead r o → F o ≡ F' o)
        → type_by text rows r w c T F N B ≡ type_by text rows r w c T' F' N B
    type_same r (word.Type (type.Base w)) c T T' F F' N B p q s e g = refl
    type_same r (word.Type type.Void) c T T' F F' N B p q s e g = refl
    type_same r (word.Type type.Rec) c T T' F F' N B p q s e g =
        ap (rec r) (g (number_in c.one) (ahead r family.Field c.one p))
    type_same r (word.Type type.Arr) c T T' F F' N B p q s e g =
        ap (arr r (N (target c.two))) (e (target c.one) p.later)
    type_same r (word.Type type.Alt) c T T' F F' N B p q s e g =
        ap₂ (alt r (B (target c.one))) (e (target c.two) q.later) (e (target c.three) s.later)
    type_same r word.Field c T T' F F' N B p q s e g = refl
    type_same r (word.Number w) c T T' F F' N B p q s e g = refl
    type_same r (word.Truth w) c T T' F F' N B p q s e g = refl
    type_same r word.From c T T' F F' N B p q s e g = refl
    type_same r (word.Step w) c T T' F F' N B p q s e g = refl

    fields_same : (r : ℕ) (w : Word) (c : Row) (T T' : ℕ → Ty) (F F' : Option ℕ → Fields)
        → Leads rows r (rule_of w).one c.one → Leads rows r (rule_of w).two c.two
        → ((a : ℕ) → r < a → T a ≡ T' a) → ((o : Option ℕ) → Ahead r o → F o ≡ F' o)
        → fields_by text rows w c T F ≡ fields_by text rows w c T' F'
    fields_same r word.Field c T T' F F' p q e g =
        ap₂ (fld (name_in text c.name)) (e (target c.one) p.later)
        (g (number_in c.two) (ahead r family.Field c.two q))
    fields_same r (word.Type w) c T T' F F' p q e g = refl
    fields_same r (word.Number w) c T T' F F' p q e g = refl
    fields_same r (word.Truth w) c T T' F F' p q e g = refl
    fields_same r word.From c T T' F F' p q e g = refl
    fields_same r (word.Step w) c T T' F F' p q e g = refl

    mutual
      type_turns : (j k r : ℕ) → length rows ≤ j + r → length rows ≤ k + r
          → type_deep text rows j r ≡ type_deep text rows k r
      type_turns zero zero r h g = refl
      type_turns zero (suc k) r h g = rw (past r (omega arith))
      type_turns (suc j) zero r h g = rw (past r (omega arith))
      type_turns (suc j) (suc k) r h g =
          type_same r (row_at rows r).word _ _ _ _ _ _ _ (forward r).one (forward r).two
          (forward r).three
          (λ a l. type_turns j k a (omega arith) (omega arith))
          (λ o l. fields_turns j k o (fewer r j o h l) (fewer r k o g l))

      fields_turns : (j k : ℕ) (o : Option ℕ) → Enough j o → Enough k o
          → fields_deep text rows j o ≡ fields_deep text rows k o
      fields_turns zero zero o h g = refl
      fields_turns zero (suc k) None h g = refl
      fields_turns zero (suc k) (Some r) h g = rw (past r (omega arith))
      fields_turns (suc j) zero None h g = refl
      fields_turns (suc j) zero (Some r) h g = rw (past r (omega arith))
      fields_turns (suc j) (suc k) None h g = refl
      fields_turns (suc j) (suc k) (Some r) h g =
          fields_same r (row_at rows r).word _ _ _ _ _ (forward r).one (forward r).two
          (λ a l. type_turns j k a (omega arith) (omega arith))
          (λ o l. fields_turns j k o (fewer r j o h l) (fewer r k o g l))

    pub type_unfolds : (r : ℕ) → type_at text rows r ≡ type_of text rows r (row_at rows r)
    unfolding type_at fields_at
    type_unfolds r = type_turns (length rows) (suc (length rows)) r (omega arith) (omega arith)

    pub fields_unfold : (r : ℕ) → fields_at text rows (Some r) ≡ fields_of text rows (row_at rows r)
    unfolding type_at fields_at
    fields_unfold r = fields_turns (length rows) (suc (length rows)) (Some r) (omega arith)
        (omega arith)

    pub fields_end : fields_at text rows None ≡ none
    unfolding fields_at
    fields_end = fields_turns (length rows) (suc (length rows)) None tt tt

pub rows_unfold : RowsUnfold
rows_unfold text rows ok =
    let f = checked_forward text rows ok in
    record {
      number = number_unfolds text rows f;
      steps = steps_unfold text rows f;
      truth = truth_unfolds text rows f;
      type = type_unfolds text rows f;
      fields = fields_unfold text rows f;
      steps_end = steps_end text rows f;
      fields_end = fields_end text rows f;
    }
