use Rattle.line.proofs.Pieces.{then, then_is}
use Rattle.listing.proofs.Shares.{numbers_more}
use Rattle.listing.proofs.answers.put_numbers.Goals as goal

pub loop-n-preserved : goal.loop-n-preserved
loop-n-preserved g c =
    let j = g.met.W.Sink.joins in
    then_is j _ (numbers_more c.args.word.now c.args.numbers.now c.loop-n.n-index c.loop-n-test.true) c.loop-n.invariant (then j c.text-in-loop-n.ensures c.number.ensures)
