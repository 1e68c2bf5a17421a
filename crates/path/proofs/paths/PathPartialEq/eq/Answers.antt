use Rattle.std.proofs.Common.{rules}
use Rattle.path.specs.Equal.{path_decides}
use Rattle.path.specs.Meaning.{path_of}
use Rattle.path.proofs.Laws.{same_paths}
use Rattle.path.proofs.paths.PathPartialEq.eq.Goals as goal

pub returns : goal.returns
returns c =
    let self = c.args.self.now in
    let other = c.args.other.now in
    let is = same_paths self other in
    let decides = path_decides (path_of self) (path_of other) in
    search rules
