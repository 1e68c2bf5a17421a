use Rattle.std.proofs.Common.{rules}
use Rattle.list.specs.Contents.{contents}
use Rattle.path.specs.Meaning.{path_of}
use Rattle.evaluate.proofs.Finding.{last_placed}
use Rattle.evaluate.proofs.lookup.find_piece.Goals as goal

pub returns-clause-value : goal.returns-clause-value
returns-clause-value c = let e = last_placed (contents c.args.pieces.now) (path_of c.args.path) in search rules
