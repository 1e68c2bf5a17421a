use Rattle.std.proofs.Common.{◌≡◌, ◌+◌, ◌-◌, ◌<◌, suc, length, set, sym, ap, ◌∙◌, subst}
use Rattle.std.proofs.Common.{arith}
use Rattle.list.specs.Contents.{backing}
use Rattle.path.specs.Meaning.{element, path_of}
use Rattle.sheet.specs.Sheets.{rows_of, text_of}
use Rattle.meaning.specs.Matcher.{accepted, refused, put_piece}
use Rattle.walk.specs.Frames.{placed_of}
use Rattle.walk.specs.Walks.{Reached}
use Rattle.walk.proofs.Elements.{one_more, other_last, stopped}
use Rattle.walk.proofs.Keeping.{keeps_further}
use Rattle.meaning.specs.Bars.{Bars}
use Rattle.walk.proofs.walker.Walker.bases.Goals as goal

pub returns-in-Err-clause-outcome : goal.returns-in-Err-clause-outcome
returns-in-Err-clause-outcome g c =
    let s = c.args.self.now.sheet.now in
    let message = g.M.Message.meaning c.args.self.now.message.now in
    let bars = g.P.Placer.bars c.args.self.now.placer.now (backing c.args.pieces.now) in
    let A = placed_of c.loop-i.pieces in
    let P = path_of c.args.here in
    let Q = path_of c.turn.new.self in
    let i = c.loop-i.i in
    let was = c.loop-i.invariant.there in
    let at = other_last P was.0 (element i) (path_of c.loop-i.there) Q was.1
    (c.turn.ensures ∙ ap (set (path_of c.loop-i.there) (length (path_of c.loop-i.there) - 1))
    c.element_step.ensures) in
    let e = c.in-Err.fault in
    let h = c.in-Err.ensures.outcome in
    let put : put_piece bars Q c.args.row c.args.base A ≡ refused e c.args.row A
    = subst (λ (tk : Bars). put_piece tk Q c.args.row c.args.base A ≡ refused e c.args.row A)
    c.loop-i.invariant.keeps.bars_same h.0 in
    let some : 0 < c.args.count - i = omega arith in (
      (λ O. c.loop-i.invariant.same O
          ∙ stopped (text_of s) (rows_of s) message bars P c.args.row s.ok c.args.base
          c.requires.word Q i at (c.args.count - i) A O e c.args.row some put
          ∙ ap (refused e c.args.row) (sym h.1)),
      subst (λ B. Reached B c.loop-i.place) (sym h.1) c.loop-i.invariant.reached,
    )

pub loop-i-preserved : goal.loop-i-preserved
loop-i-preserved g c =
    let s = c.args.self.now.sheet.now in
    let message = g.M.Message.meaning c.args.self.now.message.now in
    let placer = c.args.self.now.placer.now in
    let bars = g.P.Placer.bars placer (backing c.args.pieces.now) in
    let A = placed_of c.loop-i.pieces in
    let B = placed_of c.put.new.pieces in
    let P = path_of c.args.here in
    let Q = path_of c.turn.new.self in
    let i = c.loop-i.i in
    let was = c.loop-i.invariant.there in
    let at = other_last P was.0 (element i) (path_of c.loop-i.there) Q was.1
    (c.turn.ensures ∙ ap (set (path_of c.loop-i.there) (length (path_of c.loop-i.there) - 1))
    c.element_step.ensures) in
    let h = c.in-Ok.ensures.outcome in
    let put : put_piece bars Q c.args.row c.args.base A ≡ accepted B
    = subst (λ (tk : Bars). put_piece tk Q c.args.row c.args.base A ≡ accepted B)
    c.loop-i.invariant.keeps.bars_same h.0 in
    let next : i + 1 ≡ suc i = omega arith in
    let one : c.args.count - i ≡ suc (c.args.count - (i + 1)) = omega arith in
    record {
      same = λ O. c.loop-i.invariant.same O
          ∙ one_more (text_of s) (rows_of s) message bars P c.args.row s.ok c.args.base
          c.requires.word Q i at (i + 1) (c.args.count - i) (c.args.count - (i + 1)) A B O next
          one put;
      reached = h.1;
      there = (element i, at);
      keeps = keeps_further (g.P.Placer.bars placer) (g.P.Placer.leaves placer) c.args.pieces.now
          c.loop-i.pieces c.put.new.pieces c.loop-i.invariant.keeps c.in-Ok.ensures.keeps;
    }
