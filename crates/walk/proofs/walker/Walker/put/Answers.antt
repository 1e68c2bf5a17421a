use Rattle.std.proofs.Common.{◌≡◌, ◌+◌, ◌++◌, ◌∷◌, [], subst, arith}
use Rattle.list.specs.Contents.{backing}
use Rattle.path.specs.Meaning.{path_of}
use Rattle.sheet_text.specs.Table.{width_of}
use Rattle.meaning.specs.Terms.{PieceSpec}
use Rattle.meaning.specs.Layouts.{piece_at}
use Rattle.walk.specs.Frames.{placed_of}
use Rattle.walk.specs.Walks.{Reached}
use Rattle.walk.proofs.Turning.{put_taken, reached_more}
use Rattle.walk.proofs.walker.Walker.put.Goals as goal

pub returns-clause-outcome : goal.returns-clause-outcome
returns-clause-outcome g c =
    let placer = c.args.self.now.placer.now in
    let entries = backing c.args.pieces.now in
    let bars = g.P.Placer.bars placer entries in
    let A = placed_of c.args.pieces.now in
    let B = placed_of c.place.new.pieces in
    let P = path_of c.args.path in
    let w = c.args.base in
    let p : PieceSpec =
    record { path = P; row = c.args.row; place = c.args.place; width = c.width-width.result } in
    let is : p ≡ piece_at A P c.args.row w
    = (λ i. record {
      path = P;
      row = c.args.row;
      place = c.requires.reached.placed i;
      width =
          c.width-width.ensures.is i;
    }) in
    let more : B ≡ A ++ p ∷ [] = c.in_ok-place.ensures.pieces in
    let inside = g.P.Placer.ends placer entries A p c.in_ok-place.ensures.answer in
    let wide : width_of w ≡ c.from.result = omega arith in (
      put_taken bars P c.args.row w A p is B more c.in_ok-place.ensures.answer,
      subst (λ k. Reached B (c.args.place + k)) wide
          (reached_more bars P c.args.row w A p is B more c.args.place c.requires.reached inside),
    )
