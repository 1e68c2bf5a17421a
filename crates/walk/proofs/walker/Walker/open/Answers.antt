use Rattle.meaning.specs.declared.fault.LayFault.TheVariants as fault
use Rattle.std.proofs.Common.{◌≡◌, ◌∷◌, length, refl, sym, ap, ◌∙◌, subst, subst₂, arith}
use Rattle.std.proofs.lemmas.Result.{MatchResult-weaker}
use Rattle.list.specs.Contents.{backing}
use Rattle.path.specs.Meaning.{path_of}
use Rattle.path.specs.declared.Path.{Path}
use Rattle.sheet.specs.Sheets.{rows_of, text_of}
use Rattle.sheet.proofs.Lawful.{few_rows}
use Rattle.sheet_text.specs.declared.word.TypeWord.{TypeWord}
use Rattle.sheet_text.specs.declared.word.Word.TheVariants as words
use Rattle.sheet_text.specs.declared.word.TypeWord.TheVariants as type
use Rattle.opened.specs.Opens.{records_of}
use Rattle.meaning.specs.Matcher.{put_piece, refused}
use Rattle.walk.specs.Frames.{in_front, frame_of, open_of, placed_of}
use Rattle.walk.specs.Walks.{Turned, Reached}
use Rattle.walk.proofs.Opens.{front_base, front_void}
use Rattle.walk.proofs.Turning.{base_turned, part_turned, turn_refused}
use Rattle.walk.proofs.Keeping.{keeps_same}
use Rattle.walk.proofs.walker.Walker.open.Goals as goal

pub returns-in_default : goal.returns-in_default
returns-in_default g c =
    let s = c.args.self.now.sheet.now in
    let message = g.M.Message.meaning c.args.self.now.message.now in
    let l = c.args.pieces.now in
    let bars = g.P.Placer.bars c.args.self.now.placer.now (backing l) in
    let P = path_of c.args.here.path in
    let O = records_of c.args.here in
    record {
      outcome = (
        turn_refused (text_of s) (rows_of s) message bars (open_of c.args.frames.now) (placed_of l)
            (in_front P O c.args.row) fault.Void c.args.row
            (front_void (text_of s) (rows_of s) s.ok c.args.row c.row_at-r.result c.row_at-r.ensures
            message bars P O (placed_of l)
            (λ b. c.in_default.not-Type (type.Base b)) (c.in_default.not-Type type.Rec)
            (c.in_default.not-Type type.Arr) (c.in_default.not-Type type.Alt)),
        c.requires.reached,
      );
      keeps = keeps_same (g.P.Placer.bars c.args.self.now.placer.now)
          (g.P.Placer.leaves c.args.self.now.placer.now) l l refl;
      room = refl;
    }

pub put-requires-clause-row : goal.put-requires-clause-row
put-requires-clause-row g c =
    let s = c.args.self.now.sheet.now in
    omega (arith, few_rows (text_of s) (rows_of s) s.ok, c.requires.shallow.0.3.0)

pub returns-in-Base-clause-outcome : goal.returns-in-Base-clause-outcome
returns-in-Base-clause-outcome g c =
    let s = c.args.self.now.sheet.now in
    let message = g.M.Message.meaning c.args.self.now.message.now in
    let l = c.args.pieces.now in
    let B = placed_of c.put.new.pieces in
    let bars = g.P.Placer.bars c.args.self.now.placer.now (backing l) in
    let P = path_of c.args.here.path in
    let O = records_of c.args.here in
    let K = open_of c.args.frames.now in
    let is : c.row_at-r.result.word ≡ words.Type (type.Base c.in-Base.base) = c.in-Type.is
    ∙ ap (λ (w : TypeWord). words.Type w) c.in-Base.is in
    let base = front_base (text_of s) (rows_of s) s.ok c.args.row c.row_at-r.result
    c.row_at-r.ensures message bars P O (placed_of l) c.in-Base.base is
    ∙ ap (λ (p : Path). put_piece bars (path_of p) c.args.row c.in-Base.base (placed_of l))
    (sym c.path.ensures) in
    MatchResult-weaker c.put.result c.put.ensures.outcome
    (λ q h. (
      base_turned (text_of s) (rows_of s) message bars K (placed_of l) P O c.args.row B
          c.requires.shallow (base ∙ h.0),
      h.1,
    ))
    (λ e h. (
      turn_refused (text_of s) (rows_of s) message bars K (placed_of l) (in_front P O c.args.row) e
          c.args.row (base ∙ h.0)
          ∙ ap (refused e c.args.row) (sym h.1),
      subst (λ A. Reached A c.args.place) (sym h.1) c.requires.reached,
    ))

pub returns : goal.returns
returns g c =
    let s = c.args.self.now.sheet.now in
    let message = g.M.Message.meaning c.args.self.now.message.now in
    let l = c.args.pieces.now in
    let m = c.stand_in.new.pieces in
    let bars = g.P.Placer.bars c.args.self.now.placer.now (backing l) in
    let P = path_of c.args.here.path in
    let O = records_of c.args.here in
    let K = open_of c.args.frames.now in
    let same : placed_of m ≡ placed_of l = ap placed_of c.stand_in.ensures.same in
    record {
      outcome = (
        subst₂ (Turned (text_of s) (rows_of s) message bars (in_front P O c.args.row ∷ K)
            (placed_of l)) (sym c.push.ensures.open) (sym same)
            (part_turned (text_of s) (rows_of s) message bars K (placed_of l)
            (in_front P O c.args.row) (frame_of c.in_ok-frame.frame) c.requires.shallow
            (c.in_ok-frame.ensures.outcome bars (length K) c.requires.shallow.0)),
        subst (λ A. Reached A c.args.place) (sym same) c.requires.reached,
      );
      keeps = keeps_same (g.P.Placer.bars c.args.self.now.placer.now)
          (g.P.Placer.leaves c.args.self.now.placer.now) l m c.stand_in.ensures.same;
      room = c.push.ensures.room;
    }
