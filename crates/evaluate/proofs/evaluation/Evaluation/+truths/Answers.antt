use Rattle.std.proofs.Common.{◌∙◌, arith}
use Rattle.evaluate.proofs.Places.{few, row_proper, truth_at_lem}
use Rattle.evaluate.proofs.evaluation.Evaluation.+truths.Goals as goal

pub truth_at-truth_by-requires : goal.truth_at-truth_by-requires
truth_at-truth_by-requires g t c κs within = (
  omega arith,
  (
    within,
    (
      row_proper c.args.self.now.sheet.now c.args.row c.row_at.result c.row_at.ensures,
      few c.args.self.now.sheet.now,
    ),
  ),
)

pub truth_at-returns-clause-value : goal.truth_at-returns-clause-value
truth_at-returns-clause-value g t c =
    let s = c.args.self.now in
    c.truth_by.ensures.value
    ∙ truth_at_lem (g.M.Message.meaning s.message.now) s.sheet.now c.args.pieces.now s.records.now
    c.args.row c.row_at.result c.row_at.ensures
