use Rattle.std.proofs.Common.{◌≡◌, ℕ, not, ◌&&◌, ◌||◌, List, refl, sym, ap, ◌∙◌, rules, tests}
use Rattle.std.specs.List.{list_any}
use Rattle.std.specs.Str.{bytes_eq}
use Rattle.std.proofs.lemmas.Iterator.Consumers.{YieldsList-from_first}
use Rattle.std.proofs.lemmas.Iterator.Search.{any_from_yields_List}
use Rattle.std.proofs.lemmas.List.Recursion.{same_from_clauses}
use Rattle.sheet.specs.Fields.{member, distinct}
use Rattle.sheet.specs.Names.{names_left}
use Rattle.sheet.proofs.draft.Draft.names_differ.Goals as goal
use Rattle.sheet.proofs.draft.Draft.names_differ.Goals.{After-any}

listed : (x : List ℕ) (ys : List (List ℕ)) → list_any (bytes_eq x) ys ≡ member x ys
listed x = same_from_clauses (list_any (bytes_eq x)) (member x) (λ y t. bytes_eq x y || t) refl (λ _ _. refl) (λ _ _. refl)

again : (c : After-any) → c.any.result ≡ member c.in-Some.name.now (names_left c.next.new.self)
again c =
    any_from_yields_List (bytes_eq c.in-Some.name.now) c.any.new.self _ c.any.result c.any.ensures.ran
    (YieldsList-from_first (λ x. x.now) names_left (names_left c.next.new.self) refl)
    (λ x b q k. search (rules, tests))
    ∙ listed c.in-Some.name.now (names_left c.next.new.self)

pub returns-then-any : goal.returns-then-any
returns-then-any c =
    let rest = names_left c.next.new.self in
    sym (ap (λ t. not t && distinct rest) (sym (again (goal.at.returns-then-any c).After-any) ∙ c.if-any.true))
    ∙ sym (ap distinct c.in-Some.ensures.steps) ∙ c.loop-name.invariant

pub loop-name-preserved : goal.loop-name-preserved
loop-name-preserved c =
    let rest = names_left c.next.new.self in
    sym (ap (λ t. not t && distinct rest) (sym (again (goal.at.loop-name-preserved c).After-any) ∙ c.if-any.false))
    ∙ sym (ap distinct c.in-Some.ensures.steps) ∙ c.loop-name.invariant
