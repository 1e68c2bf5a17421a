use Rattle.std.proofs.Common.{cond, None, Some, ap, length, refl, sym, ◌∙◌, arith}
use Rattle.list.specs.Contents.{backing, contents}
use Rattle.meaning.specs.Terms.{piece_of}
use Rattle.meaning.specs.declared.fault.LayFault.TheVariants as fault
use Rattle.laws.proofs.Accepts.{inside_is}
use Rattle.walk.proofs.Passing.{next_kept, one_passed}
use Rattle.walk.proofs.comparing.ComparingPlacer.place.Goals as goal

pub returns-then-same-clause-answer : goal.returns-then-same-clause-answer
returns-then-same-clause-answer c =
    let l = c.args.pieces.now in
    let e = rw c.len-placed.ensures.same at c.in-Some.ensures.cases in
    inside_is c.args.self.now.len (piece_of c.args.piece) _ (omega arith)
    ∙ ap (λ b. cond b None (Some fault.NotKept))
    (next_kept c.args.self.now.kept (length (contents l)) (backing l) (contents l) refl
    (piece_of c.args.piece) c.in-Some.next (omega arith) e.0
    ∙ sym c.same.ensures ∙ c.if-same.true)

pub returns-then-same-clause-pieces : goal.returns-then-same-clause-pieces
returns-then-same-clause-pieces c =
    let l = c.args.pieces.now in
    let e = rw c.len-placed.ensures.same at c.in-Some.ensures.cases in
    one_passed (contents l) (contents c.restore.new.self) c.in-Some.next (piece_of c.args.piece) e.1
    (sym c.same.ensures ∙ c.if-same.true)

pub returns-clause-answer : goal.returns-clause-answer
returns-clause-answer c =
    let l = c.args.pieces.now in
    let e = rw c.len-placed.ensures.same at c.in-Some.ensures.cases in
    inside_is c.args.self.now.len (piece_of c.args.piece) _ (omega arith)
    ∙ ap (λ b. cond b None (Some fault.NotKept))
    (next_kept c.args.self.now.kept (length (contents l)) (backing l) (contents l) refl
    (piece_of c.args.piece) c.in-Some.next (omega arith) e.0
    ∙ sym c.same.ensures ∙ c.if-same.false)
