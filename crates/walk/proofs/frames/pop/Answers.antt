use Rattle.list.specs.Contents.{contents}
use Rattle.walk.specs.Frames.{frame_of}
use Rattle.walk.proofs.Ends.{popped}
use Rattle.walk.proofs.frames.pop.Goals as goal

pub returns-clause-open : goal.returns-clause-open
returns-clause-open c = popped frame_of (contents c.args.frames.now) (contents c.pop.new.self) c.pop.result c.pop.ensures.value c.pop.ensures.contents
