use Rattle.std.proofs.Common.{◌≡◌, length}
use Rattle.sheet.specs.Fields.{distinct, chain_names}
use Rattle.sheet.specs.Names.{names_left}
use Rattle.sheet.proofs.draft.Draft.names_differ.Given as goal

abbrev pub invariant-loop-name : goal.invariant-loop-name
invariant-loop-name l = distinct (names_left l.names) ≡ distinct (chain_names (length l.self.rows.now) l.self.text.now l.self.rows.now l.fn.first)
