use Rattle.std.proofs.Common.{◌*◌, ◌≤◌, length, take}
use Rattle.std.specs.List.{flat_map}
use Rattle.listing.specs.Rows.{behind_comma, value_text}
use Rattle.listing.proofs.rows.put_told.Given as goal

abbrev pub invariant-loop-value : goal.invariant-loop-value
invariant-loop-value g l =
    let written = flat_map (λ v. behind_comma (value_text v)) (take l.value-index l.value-items) in
    g.W.Sink.took l.initial.out written l.out × (length written ≤ 21 * l.value-index)
