use Rattle.std.proofs.Common.{◌≡◌, ◌-◌, ◌<◌, length, map, take, set, ap, ◌∙◌, arith}
use Rattle.std.proofs.Math.Seq.{take-set-lt}
use Rattle.std.proofs.lemmas.List.{length-map, length-take, map-set}
use Rattle.path.specs.Meaning.{path_of, step_of}
use Rattle.path.proofs.Path.turn.Goals as goal

pub returns-then-len-gt0 : goal.returns-then-len-gt0
returns-then-len-gt0 c =
    let p = c.args.self.now in
    let s = c.args.step in
    let last = p.len - 1 in
    let within : last < p.len = omega arith in
    let same : last ≡ length (path_of p) - 1 = omega (arith, length-map (take p.len p.steps) step_of, length-take p.len p.steps, p.full, p.short) in
    ap (map step_of) (take-set-lt p.len p.steps last s within)
    ∙ map-set step_of (take p.len p.steps) last s
    ∙ ap (λ k. set (path_of p) k (step_of s)) same
