use Rattle.std.proofs.Common.{◌≡◌, ◌+◌, ◌-◌, ◌∷◌, sym, subst, arith}
use Rattle.path.specs.Meaning.{element, path_of}
use Rattle.sheet.specs.Sheets.{rows_of, text_of}
use Rattle.opened.specs.Opens.{records_of}
use Rattle.meaning.specs.Layouts.{◌▸◌}
use Rattle.walk.specs.Frames.{in_front, in_array, open_of}
use Rattle.walk.specs.Walks.{Parts}
use Rattle.walk.proofs.NextParts.{array_end, array_next}
use Rattle.walk.proofs.parts.next_element.Goals as goal

pub returns-then-index-count-clause-parts : goal.returns-then-index-count-clause-parts
returns-then-index-count-clause-parts c =
    let s = c.args.sheet.now in
    array_end (text_of s) (rows_of s) s.ok (path_of c.args.here.path) (records_of c.args.here) (open_of c.args.frames.now) c.args.element c.args.index
    (c.args.count - c.args.index) (omega arith) c.requires.shallow

pub returns-clause-parts : goal.returns-clause-parts
returns-clause-parts c =
    let s = c.args.sheet.now in
    let P = path_of c.args.here.path in
    let O = records_of c.args.here in
    let K = open_of c.args.frames.now in
    let i = c.args.index in
    let k = c.args.count - (i + 1) in
    let e : open_of c.push-2.new.frames ≡ in_front (P ▸ element i) O c.args.element ∷ in_array P O c.args.element (i + 1) k ∷ K = cc in
    subst (Parts (text_of s) (rows_of s) (in_array P O c.args.element i (c.args.count - i) ∷ K)) (sym e)
    (array_next (text_of s) (rows_of s) s.ok P O K c.args.element i (i + 1) (c.args.count - i) k (omega arith) (omega arith) c.requires.shallow)
