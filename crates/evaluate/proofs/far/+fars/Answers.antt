use Rattle.std.proofs.Common.{◌≡◌, Some, sym, ap, ◌∙◌, arith}
use Rattle.sheet.specs.Sheets.{rows_of, text_of}
use Rattle.sheet_text.specs.Columns.{number_in}
use Rattle.meaning.specs.Stands.{steps_at}
use Rattle.laws.specs.Quiet.{far_steps}
use Rattle.evaluate.proofs.Measures.{from}
use Rattle.evaluate.proofs.Fars.{far_number_at, far_steps_at, far_end}
use Rattle.evaluate.proofs.Places.{few, row_proper, from_ahead}
use Rattle.evaluate.proofs.far.+fars.Goals as goal

pub number_at-number_by-requires : goal.number_at-number_by-requires
number_at-number_by-requires t c = (
  omega (arith, c.decreases),
  (row_proper c.args.sheet.now c.args.row c.row_at.result c.row_at.ensures, few c.args.sheet.now),
)

pub number_at-returns : goal.number_at-returns
number_at-returns t c = c.number_by.ensures
    ∙ far_number_at c.args.sheet.now c.args.k c.args.row c.row_at.result c.row_at.ensures

pub place_at-steps_at-requires : goal.place_at-steps_at-requires
place_at-steps_at-requires t c =
    let sheet = c.args.sheet.now in
    let a = from_ahead sheet c.args.row c.row_at-r.result c.row_at-r.ensures c.in-From.is in
    let b : from 256 c.ref_in.result ≡ from 256 (number_in c.row_at-r.result.two) =
    ap (from 256) c.ref_in.ensures in
    (omega arith, tt)

pub steps_at-returns-in_default : goal.steps_at-returns-in_default
steps_at-returns-in_default t c =
    let s = c.args.sheet.now in
    far_end s c.args.k
    ∙ sym (ap (λ o. far_steps c.args.k (steps_at (text_of s) (rows_of s) o)) c.in_default.is)

pub steps_at-steps_by-requires : goal.steps_at-steps_by-requires
steps_at-steps_by-requires t c =
    let m : from 256 (Some c.in-Some.at) ≡ t = sym (ap (from 256) c.in-Some.is) ∙ c.decreases in (
      omega arith,
      (
        row_proper c.args.sheet.now c.in-Some.at c.row_at.result c.row_at.ensures,
        few
            c.args.sheet.now,
      ),
    )

pub steps_at-returns : goal.steps_at-returns
steps_at-returns t c =
    let s = c.args.sheet.now in
    c.steps_by.ensures ∙ far_steps_at s c.args.k c.in-Some.at c.row_at.result c.row_at.ensures
    ∙ sym (ap (λ o. far_steps c.args.k (steps_at (text_of s) (rows_of s) o)) c.in-Some.is)
