use Rattle.std.proofs.Common.{◌≡◌}
use Rattle.sheet_text.proofs.Reading.{Going}
use Rattle.sheet_text.proofs.rows.read_lines.Given as goal

abbrev pub invariant-loop-k : goal.invariant-loop-k
invariant-loop-k l = record {
  same : l.lines.text.now ≡ l.fn.lines.text.now;
  going : Going l.fn.lines.text.now l.fn.lines.at l.initial.place-items l.place-items l.room l.lines.at l.k-counter;
}
