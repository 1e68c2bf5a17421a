use Rattle.std.proofs.Common.{◌≡◌, length, ap, ◌∙◌, rules, tests}
use Rattle.std.specs.List.{position}
use Rattle.std.specs.Option.{unwrap_or}
use Rattle.std.proofs.lemmas.Iterator.{YieldsList-from_slice}
use Rattle.std.proofs.lemmas.Iterator.Search.{position_from_yields_List}
use Rattle.path.specs.Printed.{leads}
use Rattle.path.proofs.Parses.{ahead_by}
use Rattle.path.proofs.parse.ahead.Goals as goal

pub returns-clause-value : goal.returns-clause-value
returns-clause-value c =
    let xs = c.args.text.now in
    let first : c.position.result ≡ position leads xs =
    position_from_yields_List leads _ _ c.position.result c.position.ensures.ran (YieldsList-from_slice xs cc) (λ x b q k. search (rules, tests)) in
    c.unwrap_or.ensures ∙ ap (λ o. unwrap_or o (length xs)) first ∙ ahead_by leads xs
