use Rattle.std.proofs.Common.{◌≡◌, ◌-◌, length, take, drop, sym, ap, ◌∙◌, arith, rules, tests}
use borrow.Author.Tests.{lt-leb}
use Rattle.std.proofs.lemmas.Iterator.{YieldsList-from_slice}
use Rattle.std.proofs.lemmas.Iterator.Search.{all_from_yields_List}
use Rattle.std.specs.List.{list_all}
use Rattle.sheet_text.specs.Chars.{class_of, leads, follows, is_name}
use Rattle.sheet_text.proofs.Names.{name_from}
use Rattle.sheet_text.proofs.Plain.{name_is, name_made}
use Rattle.std.proofs.lemmas.Bool.{both_ways}
use Rattle.sheet_text.proofs.token.is_name.Goals as goal
use Rattle.sheet_text.proofs.token.is_name.Goals.{then-bytes-le16, else-bytes-le16}

pub returns-then-leads : goal.returns-then-leads
returns-then-leads c =
    let xs = c.args.bytes.now in
    let each : c.all.result ≡ list_all (λ b. follows (class_of b)) (take (length xs - 1) (drop 1 xs)) = all_from_yields_List (λ b. follows (class_of b)) _ _ c.all.result c.all.ensures.ran (YieldsList-from_slice (take (length xs - 1) (drop 1 xs)) cc) (λ x b q k. search (rules, tests)) in
    let is : c.all.result ≡ is_name xs =
    elim c.if-bytes-le16.branch [
      | then-bytes-le16 w ↦ name_from xs _ (omega arith) (ap leads (sym w.name_byte.ensures) ∙ sym w.leads.ensures ∙ sym w.value-is ∙ c.if-leads.true) each
      | else-bytes-le16 w ↦ absurd (both_ways _ (w.value-is ∙ lt-leb _ _ (omega arith)) c.if-leads.true)
    ] in
    record { is = is; proper = λ e. name_is xs (sym is ∙ e); every = λ n. is ∙ name_made xs n }
