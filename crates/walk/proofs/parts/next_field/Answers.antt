use Rattle.std.proofs.Common.{◌≡◌, ◌∷◌, Some, sym, subst}
use Rattle.path.specs.Meaning.{field, path_of}
use Rattle.sheet.specs.Checks.{target}
use Rattle.sheet.specs.Fields.{name_in}
use Rattle.sheet.specs.Sheets.{rows_of, text_of}
use Rattle.sheet_text.specs.Plain.{ProperName}
use Rattle.opened.specs.Opens.{records_of}
use Rattle.meaning.specs.Layouts.{◌▸◌}
use Rattle.walk.specs.Frames.{in_front, in_record, open_of}
use Rattle.walk.specs.Turns.{AllShallow}
use Rattle.walk.specs.Walks.{Parts}
use Rattle.walk.proofs.Rows.{is_field}
use Rattle.walk.proofs.NextParts.{record_end, record_next, room_below}
use Rattle.sheet_text.specs.Columns.{number_in}
use Rattle.walk.proofs.parts.next_field.Goals as goal

pub returns-in_default-clause-parts : goal.returns-in_default-clause-parts
returns-in_default-clause-parts c =
    let s = c.args.sheet.now in
    let P = path_of c.args.here.path in
    let O = records_of c.args.here in
    let K = open_of c.args.frames.now in
    subst (λ n. Parts (text_of s) (rows_of s) (in_record P O n ∷ K) K) (sym c.in_default.is)
    (record_end (text_of s) (rows_of s) s.ok P O K
    (subst (λ n. AllShallow (text_of s) (rows_of s) (in_record P O n ∷ K)) c.in_default.is
    c.requires.shallow))

pub field_step-requires : goal.field_step-requires
field_step-requires c =
    let s = c.args.sheet.now in
    let P = path_of c.args.here.path in
    let O = records_of c.args.here in
    let K = open_of c.args.frames.now in
    let h = subst (λ n. AllShallow (text_of s) (rows_of s) (in_record P O n ∷ K)) c.in-Some.is
    c.requires.shallow in
    subst (λ t. ProperName (name_in t c.row_at-r.result.name)) (sym c.text.ensures)
    (is_field (text_of s) (rows_of s) s.ok c.in-Some.row c.row_at-r.result c.row_at-r.ensures
    h.0.3).1

pub below-there-requires : goal.below-there-requires
below-there-requires c =
    let s = c.args.sheet.now in
    let P = path_of c.args.here.path in
    let O = records_of c.args.here in
    let K = open_of c.args.frames.now in
    room_below (text_of s) (rows_of s) s.ok P O K c.in-Some.row c.row_at-r.result c.row_at-r.ensures
    (subst (λ n. AllShallow (text_of s) (rows_of s) (in_record P O n ∷ K)) c.in-Some.is
    c.requires.shallow)

pub returns-clause-parts : goal.returns-clause-parts
returns-clause-parts c =
    let s = c.args.sheet.now in
    let P = path_of c.args.here.path in
    let O = records_of c.args.here in
    let K = open_of c.args.frames.now in
    let x = c.row_at-r.result in
    let h = subst (λ n. AllShallow (text_of s) (rows_of s) (in_record P O n ∷ K)) c.in-Some.is
    c.requires.shallow in
    let e : open_of c.push-2.new.frames
    ≡ in_front (P ▸ field (name_in (text_of s) x.name)) O (target x.one) ∷ in_record P O
    (number_in x.two) ∷ K = cc in
    subst (λ n. Parts (text_of s) (rows_of s) (in_record P O n ∷ K) (open_of c.push-2.new.frames))
    (sym c.in-Some.is)
    (subst (Parts (text_of s) (rows_of s) (in_record P O (Some c.in-Some.row) ∷ K)) (sym e)
    (record_next (text_of s) (rows_of s) s.ok P O K c.in-Some.row x c.row_at-r.ensures h))
