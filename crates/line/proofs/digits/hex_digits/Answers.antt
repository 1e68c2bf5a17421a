use Rattle.std.proofs.Common.{◌≡◌, ℕ, ◌<◌, true, codes, eqb, get_or, arith, eqb-true, refl}
use Rattle.std.proofs.lemmas.Bool.{agree_below_at}
use Rattle.line.specs.Digits.{hex_digit}
use Rattle.line.proofs.digits.hex_digits.Goals as goal

digit_at : (d : ℕ) → d < 16 → get_or (codes "0123456789abcdef") d 0 ≡ hex_digit d
digit_at d h = eqb-true _ _ (agree_below_at (λ n. eqb (get_or (codes "0123456789abcdef") n 0) (hex_digit n)) (λ _. true) 16 d refl h)

pub returns : goal.returns
returns c = cc (digit_at c.from.result (omega arith), digit_at c.from-2.result (omega arith))
