use Rattle.std.proofs.Common.{◌≡◌, [], map, reverse, ap}
use Rattle.path.specs.Meaning.{path_of}
use Rattle.sheet.specs.Sheets.{rows_of, text_of}
use Rattle.opened.specs.Opens.{records_of}
use Rattle.walk.specs.Frames.{frame_of, open_of}
use Rattle.walk.proofs.Roots.{root_shallow}
use Rattle.walk.proofs.walking.walk.Goals as goal

pub work_off-requires-clause-shallow : goal.work_off-requires-clause-shallow
work_off-requires-clause-shallow g c =
    let s = c.args.sheet.now in
    let none : open_of c.new-frames.result ≡ [] = ap (λ xs. reverse (map frame_of xs)) c.new-frames.ensures.empty in
    root_shallow (text_of s) (rows_of s) s.ok (path_of c.root.result.path) (records_of c.root.result) (open_of c.new-frames.result) (open_of c.push.new.frames)
    c.root.ensures.path c.root.ensures.records none c.push.ensures.open
