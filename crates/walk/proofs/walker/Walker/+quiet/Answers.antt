use Rattle.std.proofs.Common.{◌≡◌, ◌+◌, length, drop, true, cond, Some, sym, ap, ap₂, ◌∙◌, subst}
use Rattle.std.proofs.Common.{subst₂, arith}
use Rattle.list.specs.declared.BoundedList.{BoundedList}
use Rattle.opened.specs.Opens.{records_of}
use Rattle.path.specs.Meaning.{path_of}
use Rattle.path.specs.declared.Piece.{Piece}
use Rattle.sheet.specs.Sheets.{rows_of, text_of}
use Rattle.sheet_text.specs.declared.word.TypeWord.{TypeWord}
use Rattle.sheet_text.specs.declared.word.Word.TheVariants as words
use Rattle.sheet_text.specs.declared.word.TypeWord.TheVariants as type
use Rattle.sheet.specs.Checks.{target}
use Rattle.meaning.specs.Stands.{number_at, truth_at}
use Rattle.laws.specs.Quiet.{far, far_truth}
use Rattle.evaluate.specs.Evaluated.{number_value, truth_value}
use Rattle.walk.specs.Walks.{needed_value, counted}
use Rattle.evaluate.proofs.Measures.{from}
use Rattle.walk.specs.Frames.{placed_of}
use Rattle.walk.specs.Quieted.{Noted, QuietRow, QuietRest}
use Rattle.walk.proofs.Quieting.{outside_same, rec_quiet, arr_none, arr_quiet, alt_quiet}
use Rattle.walk.proofs.Quieting.{field_quiet, none_quiet, fields_fall, next_falls, type_falls}
use Rattle.walk.proofs.Quieting.{element_falls, chosen_falls}
use Rattle.walk.proofs.walker.Walker.+quiet.Goals as goal

pub quiet_at-quiet_by-quiet-requires : goal.quiet_at-quiet_by-quiet-requires
quiet_at-quiet_by-quiet-requires g t c κs within = (
  omega (arith, c.decreases),
  (
    within.0,
    (
      within.1,
      (c.row_at.ensures, (c.in-Some.ensures.1, (c.requires.inside, c.requires.noted))),
    ),
  ),
)

pub quiet_by-quiet_rest-requires : goal.quiet_by-quiet_rest-requires
quiet_by-quiet_rest-requires g t c κs within =
    let s = c.args.self.now.sheet.now in
    let message = g.M.Message.meaning c.args.self.now.message.now in
    let is : c.args.r.word ≡ words.Type type.Rec = c.in-Type.is
    ∙ ap (λ (w : TypeWord). words.Type w) c.in-Rec.is in
    let a = fields_fall s c.args.row c.args.r c.requires.row is in
    let b = ap (from 256) c.ref_in.ensures in
    let more = c.in-Some.ensures.1 in
    let l = ap length more in (
      omega (arith, c.decreases),
      (
        within.0,
        (
          within.1,
          (
            omega (arith, c.requires.inside),
            subst (λ O. Noted s message (placed_of c.args.pieces.now) O c.args.notes.now)
                (sym (outside_same (path_of c.args.inside.now.path) (records_of c.args.inside.now)
                (records_of c.in-Some.within) c.args.k more)) c.requires.noted,
          ),
        ),
      ),
    )

pub quiet_by-returns-then-count-eq0-clause-quiet : goal.quiet_by-returns-then-count-eq0-clause-quiet
quiet_by-returns-then-count-eq0-clause-quiet g t c e =
    let s = c.args.self.now.sheet.now in
    let is : c.args.r.word ≡ words.Type type.Arr = c.in-Type.is
    ∙ ap (λ (w : TypeWord). words.Type w) c.in-Arr.is in
    arr_none s (g.M.Message.meaning c.args.self.now.message.now) (placed_of c.args.pieces.now)
    (records_of c.args.inside.now) c.args.k c.requires.inside
    c.args.row c.args.r c.requires.row is
    (sym (c.far_number.ensures ∙ ap (λ n. far c.args.k (number_at (text_of s) (rows_of s) n))
    c.target.ensures) ∙ (let f : c.far_number.result ≡ true = cc in f))
    c.in-Ok.count c.if-count-eq0.true
    (sym (c.in-Ok.ensures.count ∙ ap
    (λ n. counted
    (number_value (g.M.Message.meaning c.args.self.now.message.now) s c.args.pieces.now
    c.args.inside.now n)) c.target-in-Arr.ensures))

pub quiet_by-quiet_at-requires : goal.quiet_by-quiet_at-requires
quiet_by-quiet_at-requires g t c κs within =
    let s = c.args.self.now.sheet.now in
    let message = g.M.Message.meaning c.args.self.now.message.now in
    let is : c.args.r.word ≡ words.Type type.Arr = c.in-Type.is
    ∙ ap (λ (w : TypeWord). words.Type w) c.in-Arr.is in
    let a = element_falls s c.args.row c.args.r c.requires.row is in (
      omega (arith, c.decreases, c.target-in-Arr-2.ensures),
      (
        within.0,
        (
          within.1,
          (
            c.requires.inside,
            subst (λ (l : BoundedList Piece).
                Noted s message (placed_of l) (drop c.args.k (records_of c.args.inside.now))
                c.args.notes.now) (sym c.elements.ensures.same) c.requires.noted,
          ),
        ),
      ),
    )

pub quiet_by-quiet_at-requires-in-Alt : goal.quiet_by-quiet_at-requires-in-Alt
quiet_by-quiet_at-requires-in-Alt g t c κs within =
    let s = c.args.self.now.sheet.now in
    let message = g.M.Message.meaning c.args.self.now.message.now in
    let is : c.args.r.word ≡ words.Type type.Alt = c.in-Type.is
    ∙ ap (λ (w : TypeWord). words.Type w) c.in-Alt.is in
    let n : c.pick-row.result ≡ cond c.in-Ok-truth.chosen (target c.args.r.two)
    (target c.args.r.three) =
    c.pick-row.ensures ∙ ap₂ (cond c.in-Ok-truth.chosen) c.target-in-Alt-3.ensures
    c.target-in-Alt-4.ensures in
    let a = chosen_falls s c.args.row c.args.r c.requires.row is c.in-Ok-truth.chosen in (
      omega (arith, c.decreases, n, a),
      (
        within.0,
        (
          within.1,
          (
            c.requires.inside,
            subst (λ (l : BoundedList Piece).
                Noted s message (placed_of l) (drop c.args.k (records_of c.args.inside.now))
                c.args.notes.now) (sym c.truth.ensures.same) c.requires.noted,
          ),
        ),
      ),
    )

pub quiet_by-returns-in-Some-clause-quiet : goal.quiet_by-returns-in-Some-clause-quiet
quiet_by-returns-in-Some-clause-quiet g t c e =
    let s = c.args.self.now.sheet.now in
    let is : c.args.r.word ≡ words.Type type.Rec = c.in-Type.is
    ∙ ap (λ (w : TypeWord). words.Type w) c.in-Rec.is in
    rec_quiet s (g.M.Message.meaning c.args.self.now.message.now) (placed_of c.args.pieces.now)
    (records_of c.args.inside.now) c.args.k c.requires.inside
    c.args.row c.args.r c.requires.row is (path_of c.args.inside.now.path)
    (records_of c.in-Some.within) (c.args.k + 1) c.in-Some.ensures.1 (omega arith)
    (subst (λ o. QuietRest s (g.M.Message.meaning c.args.self.now.message.now)
    (placed_of c.args.pieces.now) (records_of c.in-Some.within) (c.args.k + 1) o)
    c.ref_in.ensures
    (c.quiet_rest.ensures.quiet e))

pub quiet_by-returns-else-count-eq0-clause-quiet : goal.quiet_by-returns-else-count-eq0-clause-quiet
quiet_by-returns-else-count-eq0-clause-quiet g t c e =
    let s = c.args.self.now.sheet.now in
    let message = g.M.Message.meaning c.args.self.now.message.now in
    let O = records_of c.args.inside.now in
    let is : c.args.r.word ≡ words.Type type.Arr = c.in-Type.is
    ∙ ap (λ (w : TypeWord). words.Type w) c.in-Arr.is in
    arr_quiet s message (placed_of c.args.pieces.now) O c.args.k c.requires.inside c.args.row
    c.args.r c.requires.row is
    (sym (c.far_number.ensures ∙ ap (λ n. far c.args.k (number_at (text_of s) (rows_of s) n))
    c.target.ensures) ∙ (let f : c.far_number.result ≡ true = cc in f))
    c.in-Ok.count
    (sym (c.in-Ok.ensures.count ∙ ap
    (λ n. counted (number_value message s c.args.pieces.now c.args.inside.now n))
    c.target-in-Arr.ensures))
    (subst₂ (λ (l : BoundedList Piece) n. QuietRow s message (placed_of l) O c.args.k n)
    c.elements.ensures.same c.target-in-Arr-2.ensures (c.quiet_at.ensures.quiet e))

pub quiet_by-returns-in-Ok-truth-clause-quiet : goal.quiet_by-returns-in-Ok-truth-clause-quiet
quiet_by-returns-in-Ok-truth-clause-quiet g t c e =
    let s = c.args.self.now.sheet.now in
    let message = g.M.Message.meaning c.args.self.now.message.now in
    let O = records_of c.args.inside.now in
    let is : c.args.r.word ≡ words.Type type.Alt = c.in-Type.is
    ∙ ap (λ (w : TypeWord). words.Type w) c.in-Alt.is in
    let n : c.pick-row.result ≡ cond c.in-Ok-truth.chosen (target c.args.r.two)
    (target c.args.r.three) =
    c.pick-row.ensures ∙ ap₂ (cond c.in-Ok-truth.chosen) c.target-in-Alt-3.ensures
    c.target-in-Alt-4.ensures in
    alt_quiet s message (placed_of c.args.pieces.now) O c.args.k c.requires.inside c.args.row
    c.args.r c.requires.row is
    (sym (c.far_truth.ensures ∙ ap (λ n. far_truth c.args.k (truth_at (text_of s) (rows_of s) n))
    c.target-in-Alt.ensures) ∙ (let f : c.far_truth.result ≡ true = cc in f))
    c.in-Ok-truth.chosen
    (sym (c.in-Ok-truth.ensures.truth
    ∙ ap (λ n. needed_value (truth_value message s c.args.pieces.now c.args.inside.now n))
    c.target-in-Alt-2.ensures))
    (subst₂ (λ (l : BoundedList Piece) n. QuietRow s message (placed_of l) O c.args.k n)
    c.truth.ensures.same n (c.quiet_at-in-Alt.ensures.quiet e))

pub quiet_rest-returns-in_default-clause-quiet : goal.quiet_rest-returns-in_default-clause-quiet
quiet_rest-returns-in_default-clause-quiet g t c e =
    let s = c.args.self.now.sheet.now in
    subst (λ o. QuietRest s (g.M.Message.meaning c.args.self.now.message.now)
    (placed_of c.args.pieces.now) (records_of c.args.inside.now) c.args.k o)
    (sym c.in_default.is)
    (none_quiet s (g.M.Message.meaning c.args.self.now.message.now) (placed_of c.args.pieces.now)
    (records_of c.args.inside.now) c.args.k)

pub quiet_rest-quiet_at-requires : goal.quiet_rest-quiet_at-requires
quiet_rest-quiet_at-requires g t c κs within =
    let s = c.args.self.now.sheet.now in
    let a = type_falls s c.in-Some.row c.row_at-r.result c.row_at-r.ensures c.in-Field.is in
    let m : from 256 (Some c.in-Some.row) ≡ t = sym (ap (from 256) c.in-Some.is) ∙ c.decreases in
    (omega (arith, c.target.ensures), (within.0, (within.1, (c.requires.inside, c.requires.noted))))

pub quiet_rest-quiet_rest-requires : goal.quiet_rest-quiet_rest-requires
quiet_rest-quiet_rest-requires g t c κs within =
    let s = c.args.self.now.sheet.now in
    let message = g.M.Message.meaning c.args.self.now.message.now in
    let a = next_falls s c.in-Some.row c.row_at-r.result c.row_at-r.ensures c.in-Field.is in
    let b = ap (from 256) c.ref_in.ensures in
    let m : from 256 (Some c.in-Some.row) ≡ t = sym (ap (from 256) c.in-Some.is) ∙ c.decreases in (
      omega (arith, b, m, a),
      (
        within.0,
        (
          within.1,
          (
            c.requires.inside,
            subst (λ (l : BoundedList Piece).
                Noted s message (placed_of l) (drop c.args.k (records_of c.args.inside.now))
                c.quiet_at.new.notes) (sym c.quiet_at.ensures.same) c.quiet_at.ensures.noted,
          ),
        ),
      ),
    )

pub quiet_rest-returns-clause-quiet : goal.quiet_rest-returns-clause-quiet
quiet_rest-returns-clause-quiet g t c e =
    let s = c.args.self.now.sheet.now in
    let message = g.M.Message.meaning c.args.self.now.message.now in
    let O = records_of c.args.inside.now in
    let A = placed_of c.args.pieces.now in
    let q : c.quiet_at.result ≡ true = cc in
    subst (λ o. QuietRest s message A O c.args.k o) (sym c.in-Some.is)
    (field_quiet s c.in-Some.row c.row_at-r.result c.row_at-r.ensures message A O c.args.k
    c.in-Field.is
    (subst (λ n. QuietRow s message A O c.args.k n) c.target.ensures (c.quiet_at.ensures.quiet q))
    (subst₂ (λ (l : BoundedList Piece) o. QuietRest s message (placed_of l) O c.args.k o)
    c.quiet_at.ensures.same c.ref_in.ensures (c.quiet_rest.ensures.quiet e)))
