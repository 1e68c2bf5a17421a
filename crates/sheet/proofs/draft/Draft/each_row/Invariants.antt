use Rattle.std.proofs.Common.{◌≡◌, ℕ, Bool, drop}
use Rattle.sheet_text.specs.declared.row.Row.{Row}
use Rattle.sheet.specs.Checks.{first_failing, Tests}
use Rattle.sheet.proofs.draft.Draft.each_row.Given as goal

abbrev pub invariant-loop-k : goal.invariant-loop-k
invariant-loop-k g l = (p : ℕ → Row → Bool) → Tests (goal.F-post g l.test) p l.self.rows.now → first_failing p l.k (drop l.k l.self.rows.now) ≡ first_failing p 0 l.self.rows.now
