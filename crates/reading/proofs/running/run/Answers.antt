use Rattle.std.proofs.Common.{rules, refl, ◌∙◌, arith, ◌<◌, length}
use Rattle.sheet.specs.Sheets.{rows_of, text_of}
use Rattle.reading.specs.States.{state_of}
use Rattle.reading.specs.Steps.{done}
use Rattle.laws.proofs.Unique.{one_reading}
use Rattle.reading.proofs.Settling.{run_settled}
use Rattle.reading.proofs.Once.{run_once}
use Rattle.reading.proofs.Runs.{run_more, replies_more, rest_more}
use Rattle.reading.proofs.running.run.Goals as goal

pub loop-i-init : goal.loop-i-init
loop-i-init g c = (done, tt, refl, refl, refl)

pub loop-i-preserved : goal.loop-i-preserved
loop-i-preserved g c =
    let h : c.loop-i.i < length c.args.calls.now = omega arith in
    let k : c.loop-i.i < length c.loop-i.answers = omega arith in (
      run_more (text_of c.args.sheet.now) (rows_of c.args.sheet.now)
          {s = state_of (g.S.Source.cells c.args.store.now) c.args.pieces.now c.args.laid.now}
          {t = state_of (g.S.Source.cells c.loop-i.store) c.loop-i.pieces c.loop-i.laid}
          {u = state_of (g.S.Source.cells c.answer.new.store) c.answer.new.pieces c.answer.new.laid}
          c.args.calls.now c.loop-i.answers c.loop-i.i _ c.answer.result h k c.loop-i.invariant.0
          c.answer.ensures.made,
      replies_more c.args.calls.now c.loop-i.answers c.loop-i.i _ c.answer.result h k
          c.loop-i.invariant.1 c.answer.ensures.replies,
      rest_more c.loop-i.answers c.args.answers.now c.loop-i.i c.answer.result c.loop-i.invariant.2,
      c.answer.ensures.spares ∙ c.loop-i.invariant.3,
      c.answer.ensures.fixed ∙ c.loop-i.invariant.4,
    )

pub returns-clause-law : goal.returns-clause-law
returns-clause-law g c =
    let text = text_of c.args.sheet.now in
    let rows = rows_of c.args.sheet.now in
    record {
      one = one_reading text rows;
      runs = search rules;
      settled = run_settled text rows
          {s = state_of (g.S.Source.cells c.args.store.now) c.args.pieces.now c.args.laid.now}
          c.loop-i.invariant.0;
      once = run_once text rows;
    }
