use Rattle.std.proofs.Common.{◌≡◌, ℕ, List, length, ap, ◌∙◌, subst, rules}
use Rattle.cells.specs.Cells.{byte_cells, byte_spares}
use Rattle.sheet.specs.Sheets.{rows_of, text_of}
use Rattle.told.specs.Answers.{as_told}
use Rattle.balskif.specs.Calls.{Altered, itself, number_of, put_told}
use Rattle.balskif.specs.Puts.{PutEnds}
use Rattle.balskif.proofs.Changes.{PutLeaves, altered_is, leaves_bytes}
use Rattle.balskif.proofs.puts.put_by.Goals as goal

-- the store stands on the bytes that were lent to it, so that they end as it leaves them
pub returns-clause-altered : goal.returns-clause-altered
returns-clause-altered c =
    let text = c.args.sheet.now in
    let message = c.args.message.now in
    let room = length c.args.pieces.now in
    let path = c.args.path.now in
    let value = c.args.value.now in
    let s = c.in_ok-sheet.sheet in
    let after = c.put_on.new.store.units.now in
    let same : c.new.result.units.now ≡ message = c.new.ensures.value in
    let ends = subst (λ (m : List ℕ). PutEnds (text_of s) (rows_of s) room (byte_cells m) path value (byte_cells after) c.put_on.result) same c.put_on.ensures.ends in
    let leaves : PutLeaves text message room path value after c.put_on.result
    = leaves_bytes text message room path value after s c.in_ok-sheet.ensures c.put_on.result ends (c.put_on.ensures.spares ∙ ap byte_spares same) in
    let name : c.put_on.new.store.units.ghost_name ≡ c.new.result.units.ghost_name = cc in
    let told : as_told itself c.put_on.result ≡ put_told text message room path value = search rules in
    let done : Altered text message room path value (number_of (as_told itself c.put_on.result)) after = altered_is text message room path value after c.put_on.result told leaves in
    search (rules, done)
