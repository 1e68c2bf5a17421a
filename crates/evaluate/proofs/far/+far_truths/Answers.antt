use Rattle.std.proofs.Common.{◌∙◌, arith}
use Rattle.evaluate.proofs.Fars.{far_truth_at}
use Rattle.evaluate.proofs.Places.{few, row_proper}
use Rattle.evaluate.proofs.far.+far_truths.Goals as goal

pub truth_at-truth_by-requires : goal.truth_at-truth_by-requires
truth_at-truth_by-requires t c = (
  omega (arith, c.decreases),
  (row_proper c.args.sheet.now c.args.row c.row_at.result c.row_at.ensures, few c.args.sheet.now),
)

pub truth_at-returns : goal.truth_at-returns
truth_at-returns t c = c.truth_by.ensures
    ∙ far_truth_at c.args.sheet.now c.args.k c.args.row c.row_at.result c.row_at.ensures
