use Rattle.std.proofs.Common.{take}
use Rattle.listing.specs.Said.{numbers_text}
use Rattle.listing.proofs.answers.put_numbers.Given as goal

abbrev pub invariant-loop-n : goal.invariant-loop-n
invariant-loop-n g l = g.W.Sink.took l.fn.out (numbers_text l.fn.word (take l.n-index l.numbers)) l.out
