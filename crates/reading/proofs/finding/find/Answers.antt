use Rattle.std.proofs.Common.{rules, ap, Ok}
use Rattle.meaning.specs.Terms.{pieces_of}
use Rattle.reading.proofs.Finds.{find_made}
use Rattle.reading.proofs.finding.find.Goals as goal

pub returns-in_err-piece-clause-made : goal.returns-in_err-piece-clause-made
returns-in_err-piece-clause-made c text rows cells =
    find_made text rows cells (pieces_of c.args.pieces.now) c.args.laid.now c.args.path.now
    c.from_residual.result _ (search rules) (ap pieces_of c.meant_piece.ensures.same)

pub returns-clause-made : goal.returns-clause-made
returns-clause-made c text rows cells =
    find_made text rows cells (pieces_of c.args.pieces.now) c.args.laid.now c.args.path.now
    (Ok _) _ (search rules) (ap pieces_of c.meant_piece.ensures.same)
