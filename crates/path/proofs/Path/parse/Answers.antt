use Rattle.std.proofs.Common.{◌≡◌, ◌+◌, length, take, drop, Some, sym, ap, ◌∙◌, arith, eqb-true}
use Rattle.std.specs.List.{position_or_len}
use Rattle.std.proofs.lemmas.List.{take_rest}
use Rattle.path.specs.Meaning.{path_of, step_of}
use Rattle.path.specs.Printed.{leads}
use Rattle.path.proofs.Laws.{lawful_step}
use Rattle.path.proofs.Reached.{reached_more, reached_only, reached_stuck}
use Rattle.path.proofs.Path.parse.Goals as goal
use Rattle.path.proofs.Path.parse.Goals.{After-split_at}

-- how long the step in front is
mid : (c : After-split_at) → 1 + c.ahead.result ≡ 1 + position_or_len leads (drop 1 c.loop-rest.rest.now)
mid c = ap (λ n. 1 + n) (c.ahead.ensures.value ∙ ap (position_or_len leads) (take_rest c.loop-rest.rest.now 1))

front : (c : After-split_at) → c.split_at.result.0.now ≡ take (1 + position_or_len leads (drop 1 c.loop-rest.rest.now)) c.loop-rest.rest.now
front c = c.split_at.ensures.front ∙ ap (λ n. take n c.loop-rest.rest.now) (mid c)

behind : (c : After-split_at) → c.split_at.result.1.now ≡ drop (1 + position_or_len leads (drop 1 c.loop-rest.rest.now)) c.loop-rest.rest.now
behind c = c.split_at.ensures.back ∙ ap (λ n. drop n c.loop-rest.rest.now) (mid c)

pub returns-in_err-read_step-clause-every : goal.returns-in_err-read_step-clause-every
returns-in_err-read_step-clause-every c ds l p =
    let w = (goal.at.returns-in_err-read_step-clause-every c).After-split_at in
    absurd
    (reached_stuck c.args.text.now c.loop-rest.rest.now (path_of c.loop-rest.path) c.loop-rest.invariant (omega arith)
    (λ d h e. c.in_err-read_step.ensures d h (e ∙ sym (front w))) ds l p)

pub loop-rest-preserved : goal.loop-rest-preserved
loop-rest-preserved c =
    let w = (goal.at.loop-rest-preserved c).After-split_at in
    let s = c.in_ok-read_step.field-0 in
    let more = reached_more c.args.text.now c.loop-rest.rest.now (path_of c.loop-rest.path) c.loop-rest.invariant (omega arith)
    (step_of s) (lawful_step s) (c.in_ok-read_step.ensures ∙ front w) in
    rw (behind w, c.in_ok-path.ensures) more

pub returns-clause-every : goal.returns-clause-every
returns-clause-every c ds l p =
    let done : length c.loop-rest.rest.now ≡ 0 = eqb-true _ _ (sym c.is_empty.ensures ∙ c.loop-rest-test.false) in
    ap Some (reached_only c.args.text.now c.loop-rest.rest.now (path_of c.loop-rest.path) c.loop-rest.invariant done ds l p)
