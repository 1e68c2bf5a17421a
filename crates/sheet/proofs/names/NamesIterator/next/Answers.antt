use Rattle.std.proofs.Common.{◌≡◌, ◌-◌, [], ◌∷◌, length, arith, sym, ap, ◌∙◌, subst, rules}
use Rattle.std.specs.Iterator.{YieldsFirstRef}
use Rattle.sheet.specs.Fields.{chain_names}
use Rattle.sheet.specs.Names.{names_left}
use Rattle.sheet.proofs.Chains.{chain_end, chain_over, chain_some}
use Rattle.sheet.proofs.names.NamesIterator.next.Goals as goal
use Rattle.sheet.proofs.names.NamesIterator.next.Goals.{After-name_of}

pub returns-in_err-self-clause-steps : goal.returns-in_err-self-clause-steps
returns-in_err-self-clause-steps c =
    let s = c.args.self.now in
    let none : names_left s ≡ [] = chain_end _ _ _ _ (omega (arith, c.in_err-self.ensures)) in
    subst (λ r. YieldsFirstRef names_left s r s) (sym c.from_residual.ensures) (none, none)

pub returns-in_err-field-clause-steps : goal.returns-in_err-field-clause-steps
returns-in_err-field-clause-steps c =
    let s = c.args.self.now in
    let over = sym c.row_of.ensures ∙ c.in_err-field.was in
    subst (λ r. YieldsFirstRef names_left s r (record { draft = s.draft; column = s.column; left = c.in_ok-self.field-0 })) (sym c.from_residual-in_err-field.ensures)
    (chain_over _ _ _ s.left over, chain_over _ _ _ c.in_ok-self.field-0 over)

-- the name that comes, and those after it
first : (c : After-name_of) → names_left c.args.self.now ≡ c.name_of.result.now ∷ chain_names c.in_ok-self.field-0 c.args.self.now.draft.text.now c.args.self.now.draft.rows.now c.in_ok-field.field.two
first c =
    let s = c.args.self.now in
    let text = s.draft.text.now in
    let rows = s.draft.rows.now in
    let f = c.in_ok-field.field in
    let one : s.left - 1 ≡ c.in_ok-self.field-0 = let e = c.in_ok-self.ensures in omega arith in
    chain_some text rows s.column s.left (omega arith) f (sym c.row_of.ensures ∙ c.in_ok-field.was)
    ∙ ap (λ x. x ∷ chain_names (s.left - 1) text rows f.two) (sym c.name_of.ensures)
    ∙ ap (λ n. c.name_of.result.now ∷ chain_names n text rows f.two) one

pub returns-clause-steps : goal.returns-clause-steps
returns-clause-steps c = first (goal.at.returns-clause-steps c).After-name_of

pub returns-clause-goes : goal.returns-clause-goes
returns-clause-goes c =
    let e = ap length (first (goal.at.returns-clause-goes c).After-name_of) in
    search rules
