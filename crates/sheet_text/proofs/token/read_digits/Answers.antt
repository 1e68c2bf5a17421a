use Rattle.std.proofs.Common.{◌≡◌, ◌+◌, ◌-◌, ◌*◌, get_or, drop, sym, ◌∙◌, arith}
use Rattle.std.proofs.lemmas.List.{at_drop_more}
use Rattle.sheet_text.specs.Values.{digits_after}
use Rattle.sheet_text.proofs.Numbers.{chosen_some, digits_step, digits_over}
use Rattle.sheet_text.proofs.token.read_digits.Goals as goal

pub returns-then-n-digit : goal.returns-then-n-digit
returns-then-n-digit c =
    let xs = c.args.bytes.now in
    let i = c.loop-b.b-index in
    let n = c.loop-b.n in
    let on = chosen_some _ _ _ (sym c.digit_of.ensures ∙ c.in_ok-digit.was) in
    let is : get_or xs i 0 - 48 ≡ c.in_ok-digit.digit = on.1 in
    sym (digits_over (10 * n + (get_or xs i 0 - 48)) (drop (i + 1) xs) (omega arith))
    ∙ sym (digits_step n (get_or xs i 0) (drop (i + 1) xs) on.0)
    ∙ sym (at_drop_more (digits_after n) xs i 0 (omega arith)) ∙ c.loop-b.invariant.1
