use Rattle.std.proofs.Common.{◌≡◌, ◌+◌, ◌-◌, ◌*◌, ◌^◌, ◌<◌, Ok, sym, ap, ◌∙◌, subst, arith}
use Rattle.std.proofs.lemmas.Result.{err_from_is_err_and}
use Rattle.content.proofs.Bytes.{digit_read, digit_refused, one_more, eight_fit}
use Rattle.content.proofs.digits.Goals as goal

pub overflow_mul-n : goal.overflow_mul-n
overflow_mul-n g c =
    let read = c.loop-k.k - c.from-place.result in
    omega (arith, eight_fit c.loop-k.n 0 read c.loop-k.invariant.1 (omega arith) (omega arith))

pub returns-in_err-read : goal.returns-in_err-read
returns-in_err-read g c =
    let p = err_from_is_err_and c.from_residual.result c.from_residual.ensures.1 in
    let e = digit_refused (g.S.Source.cells c.args.source.now) c.loop-k.k _ c.loop-k.n
    c.loop-k-test.true _ (sym c.in_err-read.ensures.answer) in
    rw (p.1, p.2) (sym e ∙ c.loop-k.invariant.0)

pub overflow_add-n : goal.overflow_add-n
overflow_add-n g c =
    let read = c.loop-k.k - c.from-place.result in
    let byte = c.from-in-loop-k.result in
    omega (arith, eight_fit c.loop-k.n byte read c.loop-k.invariant.1 (omega arith) (omega arith))

pub loop-k-preserved : goal.loop-k-preserved
loop-k-preserved g c =
    let cells = g.S.Source.cells c.args.source.now in
    let byte = c.from-in-loop-k.result in
    let read = c.loop-k.k - c.from-place.result in
    let next : read + 1 ≡ c.loop-k.k + 1 - c.from-place.result = omega arith in
    let e = digit_read cells c.loop-k.k _ c.loop-k.n c.loop-k-test.true byte
    (sym c.in_ok-read.ensures.answer ∙ ap Ok (sym c.from-in-loop-k.ensures)) in (
      sym e ∙ c.loop-k.invariant.0,
      subst (λ i. c.loop-k.n * 256 + byte < 256 ^ i) next
          (one_more c.loop-k.n byte read c.loop-k.invariant.1 (omega arith)),
    )
