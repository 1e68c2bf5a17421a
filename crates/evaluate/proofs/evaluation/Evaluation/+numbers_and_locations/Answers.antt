use Rattle.std.proofs.Common.{◌≡◌, None, Some, sym, ap, ◌∙◌, arith, rules}
use Rattle.list.specs.Contents.{contents}
use Rattle.std.specs.List.{slice_get}
use Rattle.path.specs.Meaning.{path_of}
use Rattle.sheet_text.specs.Columns.{number_in}
use Rattle.sheet.specs.Checks.{target}
use Rattle.meaning.specs.Terms.{pieces_of}
use Rattle.meaning.specs.Values.{placed}
use Rattle.opened.specs.Opens.{records_of}
use Rattle.evaluate.specs.Reaches.{reach_of}
use Rattle.evaluate.specs.Evaluated.{reach_value}
use Rattle.evaluate.proofs.Measures.{from}
use Rattle.evaluate.proofs.Places.{few, row_proper, from_ahead, number_at_lem, reach_at, reach_end}
use Rattle.evaluate.proofs.Places.{place_some, place_none}
use Rattle.evaluate.proofs.evaluation.Evaluation.+numbers_and_locations.Goals as goal

pub number_at-number_by-requires : goal.number_at-number_by-requires
number_at-number_by-requires g t c κs within = (
  omega arith,
  (
    within,
    (
      row_proper c.args.self.now.sheet.now c.args.row c.row_at.result c.row_at.ensures,
      few c.args.self.now.sheet.now,
    ),
  ),
)

pub number_at-returns-clause-value : goal.number_at-returns-clause-value
number_at-returns-clause-value g t c =
    let s = c.args.self.now in
    c.number_by.ensures.value
    ∙ number_at_lem (g.M.Message.meaning s.message.now) s.sheet.now c.args.pieces.now s.records.now
    c.args.row c.row_at.result c.row_at.ensures

pub piece_at-steps-requires : goal.piece_at-steps-requires
piece_at-steps-requires g t c κs within =
    let sheet = c.args.self.now.sheet.now in
    let a = from_ahead sheet c.args.row c.row_at-r.result c.row_at-r.ensures c.in-From.is in
    let b : from 256 c.ref_in.result ≡ from 256 (number_in c.row_at-r.result.two) =
    ap (from 256) c.ref_in.ensures in
    (omega arith, within)

pub piece_at-returns-in_err-ok_or-clause-value : goal.piece_at-returns-in_err-ok_or-clause-value
piece_at-returns-in_err-ok_or-clause-value g t c =
    let s = c.args.self.now in
    let climb : c.unwrap_or.result ≡ target c.row_at-r.result.one = search rules in
    let at : Some (path_of c.in_ok-start.start)
    ≡ slice_get (records_of s.records.now) c.unwrap_or.result = search rules in
    let here : c.in_ok-reach.reach ≡ None = search rules in
    let p = place_none (g.M.Message.meaning s.message.now) s.sheet.now c.args.pieces.now
    s.records.now c.args.row
    c.row_at-r.result c.row_at-r.ensures c.in-From.is c.unwrap_or.result climb c.ref_in.result
    c.ref_in.ensures
    c.in_ok-start.start at c.in_ok-reach.reach c.in_ok-reach.ensures.value here in
    search rules

pub piece_at-returns-clause-value : goal.piece_at-returns-clause-value
piece_at-returns-clause-value g t c =
    let s = c.args.self.now in
    let climb : c.unwrap_or.result ≡ target c.row_at-r.result.one = search rules in
    let at : Some (path_of c.in_ok-start.start)
    ≡ slice_get (records_of s.records.now) c.unwrap_or.result = search rules in
    let here : c.in_ok-reach.reach ≡ Some c.in_ok-ok_or.field-0 = search rules in
    let p = place_some (g.M.Message.meaning s.message.now) s.sheet.now c.args.pieces.now
    s.records.now c.args.row
    c.row_at-r.result c.row_at-r.ensures c.in-From.is c.unwrap_or.result climb c.ref_in.result
    c.ref_in.ensures
    c.in_ok-start.start at c.in_ok-reach.reach c.in_ok-reach.ensures.value c.in_ok-ok_or.field-0
    here in
    c.find_piece.ensures.value ∙ ap
    (λ l. placed (pieces_of (contents l)) (path_of c.in_ok-ok_or.field-0)) c.steps.ensures.same
    ∙ sym p

pub steps-returns-in_default-clause-value : goal.steps-returns-in_default-clause-value
steps-returns-in_default-clause-value g t c =
    let s = c.args.self.now in
    let m = g.M.Message.meaning s.message.now in
    sym (ap (λ o. reach_value m s.sheet.now c.args.pieces.now s.records.now o
    (reach_of c.args.reach)) c.in_default.is
    ∙ reach_end m s.sheet.now c.args.pieces.now s.records.now (reach_of c.args.reach))

pub steps-steps_by-requires : goal.steps-steps_by-requires
steps-steps_by-requires g t c κs within =
    let m : from 256 (Some c.in-Some.at) ≡ t = sym (ap (from 256) c.in-Some.is) ∙ c.decreases in (
      omega arith,
      (
        within,
        (
          row_proper c.args.self.now.sheet.now c.in-Some.at c.row_at.result
              c.row_at.ensures,
          few c.args.self.now.sheet.now,
        ),
      ),
    )

pub steps-returns-clause-value : goal.steps-returns-clause-value
steps-returns-clause-value g t c =
    let s = c.args.self.now in
    let m = g.M.Message.meaning s.message.now in
    c.steps_by.ensures.value
    ∙ reach_at m s.sheet.now c.args.pieces.now s.records.now c.in-Some.at c.row_at.result
    (reach_of c.args.reach) c.row_at.ensures
    ∙ sym (ap
    (λ o. reach_value m s.sheet.now c.args.pieces.now s.records.now o (reach_of c.args.reach))
    c.in-Some.is)
