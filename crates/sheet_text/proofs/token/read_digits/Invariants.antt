use Rattle.std.proofs.Common.{◌≡◌, ◌^◌, ◌<◌, drop}
use Rattle.sheet_text.specs.Values.{digits_after}
use Rattle.sheet_text.proofs.token.read_digits.Given as goal

abbrev pub invariant-loop-b : goal.invariant-loop-b
invariant-loop-b l = (l.n < 2 ^ 63) × (digits_after l.n (drop l.b-index l.bytes) ≡ digits_after 0 l.bytes)
