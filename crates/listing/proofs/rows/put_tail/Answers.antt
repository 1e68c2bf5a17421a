use Rattle.line.proofs.Pieces.{then}
use Rattle.listing.proofs.rows.put_tail.Goals as goal

pub returns : goal.returns
returns g c =
    let j = g.met.W.Sink.joins in
    then j c.text.ensures (then j c.text-2.ensures (then j c.put_value.ensures.took (then j c.put_value-2.ensures.took (then j c.text-3.ensures c.put_bytes.ensures))))
