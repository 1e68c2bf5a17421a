use Rattle.std.proofs.Common.{◌≡◌, true, Some, sym, refl, ap, ◌∙◌, subst, subst₂, arith}
use Rattle.evaluate.proofs.Measures.{from}
use Rattle.list.specs.declared.BoundedList.{BoundedList}
use Rattle.opened.specs.Opens.{records_of}
use Rattle.path.specs.Meaning.{path_of}
use Rattle.path.specs.declared.Piece.{Piece}
use Rattle.sheet.specs.Sheets.{rows_of, text_of}
use Rattle.walk.specs.Frames.{in_record, placed_of}
use Rattle.walk.specs.Quieted.{Noted, QuietRow, StandsFor}
use Rattle.walk.proofs.Quieting.{next_falls}
use Rattle.walk.proofs.Louder.{noted_nothing, stands_all, stands_on, record_on}
use Rattle.walk.proofs.walker.Walker.first_loud.Goals as goal

pub loop-at-init : goal.loop-at-init
loop-at-init g c =
    let s = c.args.self.now.sheet.now in
    let message = g.M.Message.meaning c.args.self.now.message.now in
    let A = placed_of c.args.pieces.now in
    let O = records_of c.args.here.now in
    record {
      stands = stands_all (text_of s) (rows_of s) message A
          (in_record (path_of c.args.here.now.path) O c.args.next);
      noted = noted_nothing s message A O 2304;
      same = refl;
    }

pub returns-in_default-word : goal.returns-in_default-word
returns-in_default-word g c =
    let s = c.args.self.now.sheet.now in
    let O = records_of c.args.here.now in
    let P = path_of c.args.here.now.path in
    record {
      stands = subst
          (λ o. StandsFor (text_of s) (rows_of s) (g.M.Message.meaning c.args.self.now.message.now)
          (placed_of c.args.pieces.now) (in_record P O c.args.next) (in_record P O o)) c.in-Some.is
          c.loop-at.invariant.stands;
      same = c.loop-at.invariant.same;
    }

pub quiet_at-requires-clause-noted : goal.quiet_at-requires-clause-noted
quiet_at-requires-clause-noted g c =
    subst (λ (l : BoundedList Piece).
    Noted c.args.self.now.sheet.now (g.M.Message.meaning c.args.self.now.message.now)
    (placed_of l) (records_of c.args.here.now) c.loop-at.notes)
    (sym c.loop-at.invariant.same) c.loop-at.invariant.noted

pub returns-then-not-quiet_at-clause-stands : goal.returns-then-not-quiet_at-clause-stands
returns-then-not-quiet_at-clause-stands g c =
    let s = c.args.self.now.sheet.now in
    let O = records_of c.args.here.now in
    let P = path_of c.args.here.now.path in
    subst (λ o. StandsFor (text_of s) (rows_of s) (g.M.Message.meaning c.args.self.now.message.now)
    (placed_of c.args.pieces.now) (in_record P O c.args.next) (in_record P O o)) c.in-Some.is
    c.loop-at.invariant.stands

pub returns-then-not-quiet_at-clause-same : goal.returns-then-not-quiet_at-clause-same
returns-then-not-quiet_at-clause-same g c = c.quiet_at.ensures.same ∙ c.loop-at.invariant.same

pub loop-at-smaller : goal.loop-at-smaller
loop-at-smaller g c =
    let s = c.args.self.now.sheet.now in
    let a = next_falls s c.in-Some.row c.row_at-r.result c.row_at-r.ensures c.in-Field.is in
    let b = ap (from 256) c.ref_in-at.ensures in
    let m = ap (from 256) c.in-Some.is in
    omega (arith, a, b, m)

pub loop-at-preserved : goal.loop-at-preserved
loop-at-preserved g c =
    let s = c.args.self.now.sheet.now in
    let message = g.M.Message.meaning c.args.self.now.message.now in
    let A = placed_of c.args.pieces.now in
    let P = path_of c.args.here.now.path in
    let O = records_of c.args.here.now in
    let e = in_record P O c.args.next in
    let q : c.quiet_at.result ≡ true = cc in
    let on = record_on s message A P O c.in-Some.row c.row_at-r.result c.row_at-r.ensures
    c.in-Field.is
    (subst₂ (λ (l : BoundedList Piece) n. QuietRow s message (placed_of l) O 0 n)
    c.loop-at.invariant.same c.target.ensures (c.quiet_at.ensures.quiet q)) in
    record {
      stands = stands_on (text_of s) (rows_of s) message A e (in_record P O (Some c.in-Some.row))
          (in_record P O c.ref_in-at.result)
          (subst (λ o. StandsFor (text_of s) (rows_of s) message A e (in_record P O o)) c.in-Some.is
          c.loop-at.invariant.stands)
          (subst (λ o. StandsFor (text_of s) (rows_of s) message A
          (in_record P O (Some c.in-Some.row)) (in_record P O o)) (sym c.ref_in-at.ensures) on);
      noted = subst (λ (l : BoundedList Piece).
          Noted s message (placed_of l) O c.quiet_at.new.notes) c.loop-at.invariant.same
          c.quiet_at.ensures.noted;
      same = c.quiet_at.ensures.same ∙ c.loop-at.invariant.same;
    }

pub returns-clause-stands : goal.returns-clause-stands
returns-clause-stands g c = c.loop-at.invariant.stands

pub returns-clause-same : goal.returns-clause-same
returns-clause-same g c = c.loop-at.invariant.same
