use Rattle.std.proofs.Common.{◌-◌, take, drop}
use Rattle.std.specs.List.{flat_map}
use Rattle.listing.specs.Parts.{cell_text}
use Rattle.listing.proofs.part.Part.put_bytes.Given as goal

abbrev pub invariant-loop-k : goal.invariant-loop-k
invariant-loop-k g l =
    g.W.Sink.took l.initial.out (flat_map cell_text (take (l.k - l.self.place) (drop l.self.place (g.S.Source.cells l.self.source.now)))) l.out
