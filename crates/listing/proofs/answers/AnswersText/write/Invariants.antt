use Rattle.std.proofs.Common.{map, take}
use Rattle.reading.specs.Calls.{said}
use Rattle.listing.specs.Lines.{whole_text}
use Rattle.listing.specs.Said.{said_text}
use Rattle.listing.proofs.answers.AnswersText.write.Given as goal

abbrev pub invariant-loop-answer : goal.invariant-loop-answer
invariant-loop-answer g l = g.W.Sink.took l.fn.out (whole_text (map said_text (map said (take l.answer-index l.answer-items)))) l.out
