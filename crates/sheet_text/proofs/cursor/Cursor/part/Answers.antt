use Rattle.std.proofs.Common.{◌≡◌, ℕ, List, ◌+◌, ◌-◌, length, take, drop, Some, None, sym, ap, ◌∙◌, arith, rules, tests}
use Rattle.std.specs.List.{position}
use Rattle.std.specs.Option.{option_map}
use Rattle.std.proofs.lemmas.List.{take_rest}
use Rattle.std.proofs.lemmas.Iterator.{YieldsList-from_slice}
use Rattle.std.proofs.lemmas.Iterator.Search.{position_from_yields_List}
use Rattle.sheet_text.specs.Values.{meaning}
use Rattle.sheet_text.specs.Lines.{is_stop, viewed}
use Rattle.sheet_text.proofs.Lines.{part_endless, part_other, part_placed}
use Rattle.sheet_text.proofs.cursor.Cursor.part.Goals as goal
use Rattle.sheet_text.proofs.cursor.Cursor.part.Goals.{After-position}

-- what stands at the cursor
abbrev rest : (c : After-position) → List ℕ
rest c = take (length c.args.self.now.text.now - c.args.self.now.at) (drop c.args.self.now.at c.args.self.now.text.now)

first : (c : After-position) → c.position.result ≡ position is_stop (rest c)
first c =
    position_from_yields_List is_stop _ _ c.position.result c.position.ensures.ran
    (YieldsList-from_slice (rest c) cc)
    (λ x b q k. search (rules, tests))

pub returns-in_err-n-clause-is : goal.returns-in_err-n-clause-is
returns-in_err-n-clause-is c =
    let w = (goal.at.returns-in_err-n-clause-is c).After-position in
    let text = c.args.self.now.text.now in
    let at = c.args.self.now.at in
    ap (option_map (viewed at)) c.from_residual.ensures
    ∙ sym (part_endless text (rest w) at c.args.stop (take_rest text at) (sym c.in_err-n.was ∙ first w))

pub returns-then-rest-n-clause-is : goal.returns-then-rest-n-clause-is
returns-then-rest-n-clause-is c =
    let w = (goal.at.returns-then-rest-n-clause-is c).After-position in
    let text = c.args.self.now.text.now in
    let at = c.args.self.now.at in
    sym (part_other text (rest w) at c.args.stop (take_rest text at) c.in_ok-n.n (sym c.in_ok-n.was ∙ first w) c.if-rest-n.true)

pub returns-in_err-token-clause-is : goal.returns-in_err-token-clause-is
returns-in_err-token-clause-is c =
    let w = (goal.at.returns-in_err-token-clause-is c).After-position in
    let text = c.args.self.now.text.now in
    let at = c.args.self.now.at in
    ap (option_map (viewed at)) c.from_residual-in_err-token.ensures
    ∙ sym (part_placed text (rest w) at c.args.stop (take_rest text at) c.in_ok-n.n (sym c.in_ok-n.was ∙ first w) None c.if-rest-n.false (sym c.read_token.ensures ∙ ap (option_map meaning) c.in_err-token.was))

pub returns-clause-is : goal.returns-clause-is
returns-clause-is c =
    let w = (goal.at.returns-clause-is c).After-position in
    let text = c.args.self.now.text.now in
    let at = c.args.self.now.at in
    let v = meaning c.in_ok-token.token in
    let next : at + (c.in_ok-n.n + 1) ≡ at + c.in_ok-n.n + 1 = omega arith in
    ap (λ m. Some (record { value = v; at = at; next = m })) next
    ∙ sym (part_placed text (rest w) at c.args.stop (take_rest text at) c.in_ok-n.n (sym c.in_ok-n.was ∙ first w) (Some v) c.if-rest-n.false (sym c.read_token.ensures ∙ ap (option_map meaning) c.in_ok-token.was))
