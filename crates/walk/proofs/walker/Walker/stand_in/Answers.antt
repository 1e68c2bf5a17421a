use Rattle.std.proofs.Common.{◌≡◌, cond, ◌∷◌, ◌-◌, sym, ap, ◌∙◌, subst, arith}
use Rattle.std.proofs.lemmas.Result.{err_from_is_err_and}
use Rattle.path.specs.Meaning.{path_of}
use Rattle.sheet.specs.Checks.{target}
use Rattle.sheet.specs.Sheets.{rows_of, text_of}
use Rattle.sheet_text.specs.declared.word.TypeWord.{TypeWord}
use Rattle.sheet_text.specs.declared.word.Word.TheVariants as words
use Rattle.sheet_text.specs.declared.word.TypeWord.TheVariants as type
use Rattle.opened.specs.Opens.{records_of}
use Rattle.evaluate.specs.Evaluated.{number_value, truth_value}
use Rattle.walk.specs.Frames.{in_front, in_record, in_array, placed_of}
use Rattle.walk.specs.Walks.{StandsIn, needed_value, counted}
use Rattle.walk.proofs.Opens.{front_void, front_rec, front_arr, front_alt, refused_arr, refused_alt}
use Rattle.sheet_text.specs.Columns.{number_in}
use Rattle.walk.proofs.walker.Walker.stand_in.Goals as goal

pub returns-in-Rec-clause-outcome : goal.returns-in-Rec-clause-outcome
returns-in-Rec-clause-outcome g c =
    λ bars n h.
    let s = c.args.self.now.sheet.now in
    let P = path_of c.args.here.path in
    let O = records_of c.args.here in
    let is : c.args.r.word ≡ words.Type type.Rec = c.requires.word
    ∙ ap (λ (w : TypeWord). words.Type w) c.in-Rec.is in
    let e : in_record (path_of c.entered.result.path) (records_of c.entered.result) c.ref_in.result
    ≡ in_record P (P ∷ O) (number_in c.args.r.one) = cc in
    subst (StandsIn (text_of s) (rows_of s) (g.M.Message.meaning c.args.self.now.message.now) bars
    (placed_of c.args.pieces.now) n (in_front P O c.args.row)) (sym e)
    (front_rec (text_of s) (rows_of s) s.ok c.args.row c.args.r c.requires.row
    (g.M.Message.meaning c.args.self.now.message.now) bars P O (placed_of c.args.pieces.now) n h
    is)

pub returns-in_ok-count-in-Arr-clause-outcome : goal.returns-in_ok-count-in-Arr-clause-outcome
returns-in_ok-count-in-Arr-clause-outcome g c =
    λ bars n h.
    let s = c.args.self.now.sheet.now in
    let message = g.M.Message.meaning c.args.self.now.message.now in
    let P = path_of c.args.here.path in
    let O = records_of c.args.here in
    let d = c.in_ok-count-in-Arr.count in
    let is : c.args.r.word ≡ words.Type type.Arr = c.requires.word
    ∙ ap (λ (w : TypeWord). words.Type w) c.in-Arr.is in
    let e : in_array P O c.target-in-Arr.result 0 (d - 0) ≡ in_array P O (target c.args.r.one) 0 d =
    let z : d - 0 ≡ d = omega arith in cc in
    let k = ap (λ t. counted (number_value message s c.args.pieces.now c.args.here t))
    (sym c.target.ensures) ∙ sym c.in_ok-count-in-Arr.ensures.count in
    subst (StandsIn (text_of s) (rows_of s) message bars (placed_of c.args.pieces.now) n
    (in_front P O c.args.row)) (sym e)
    (front_arr (text_of s) (rows_of s) s.ok c.args.row c.args.r c.requires.row message bars P O
    (placed_of c.args.pieces.now) n h d is k)

pub returns-in_ok-chosen-in-Alt-clause-outcome : goal.returns-in_ok-chosen-in-Alt-clause-outcome
returns-in_ok-chosen-in-Alt-clause-outcome g c =
    λ bars n h.
    let s = c.args.self.now.sheet.now in
    let message = g.M.Message.meaning c.args.self.now.message.now in
    let P = path_of c.args.here.path in
    let O = records_of c.args.here in
    let b = c.in_ok-chosen-in-Alt.chosen in
    let is : c.args.r.word ≡ words.Type type.Alt = c.requires.word
    ∙ ap (λ (w : TypeWord). words.Type w) c.in-Alt.is in
    let e : in_front P O c.pick.result
    ≡ in_front P O (cond b (target c.args.r.two) (target c.args.r.three)) = cc in
    let k = ap (λ t. needed_value (truth_value message s c.args.pieces.now c.args.here t))
    (sym c.target-in-Alt.ensures) ∙ sym c.in_ok-chosen-in-Alt.ensures.truth in
    subst (StandsIn (text_of s) (rows_of s) message bars (placed_of c.args.pieces.now) n
    (in_front P O c.args.row)) (sym e)
    (front_alt (text_of s) (rows_of s) s.ok c.args.row c.args.r c.requires.row message bars P O
    (placed_of c.args.pieces.now) n h b is k)

pub returns-in_default-clause-outcome : goal.returns-in_default-clause-outcome
returns-in_default-clause-outcome g c =
    λ bars.
    let s = c.args.self.now.sheet.now in
    let not : (w : TypeWord) → ¬ (c.args.word ≡ w) → ¬ (c.args.r.word ≡ words.Type w)
    = λ w h e. h (let z : words.Type c.args.word ≡ words.Type w = sym c.requires.word ∙ e in cc) in
    front_void (text_of s) (rows_of s) s.ok c.args.row c.args.r c.requires.row
    (g.M.Message.meaning c.args.self.now.message.now) bars (path_of c.args.here.path)
    (records_of c.args.here) (placed_of c.args.pieces.now)
    (λ b. not (type.Base b) (c.requires.other b)) (not type.Rec c.in_default.not-Rec)
    (not type.Arr c.in_default.not-Arr) (not type.Alt c.in_default.not-Alt)

pub returns-in_err-count-in-Arr-clause-outcome : goal.returns-in_err-count-in-Arr-clause-outcome
returns-in_err-count-in-Arr-clause-outcome g c =
    let s = c.args.self.now.sheet.now in
    let message = g.M.Message.meaning c.args.self.now.message.now in
    let is : c.args.r.word ≡ words.Type type.Arr = c.requires.word
    ∙ ap (λ (w : TypeWord). words.Type w) c.in-Arr.is in
    let k = ap (λ t. counted (number_value message s c.args.pieces.now c.args.here t))
    (sym c.target.ensures) ∙ sym c.in_err-count-in-Arr.ensures.count in
    let p = err_from_is_err_and c.from_residual.result c.from_residual.ensures.1 in
    rw (p.1, p.2)
    (λ bars.
    refused_arr (text_of s) (rows_of s) s.ok c.args.row c.args.r c.requires.row message bars
    (path_of c.args.here.path) (records_of c.args.here) (placed_of c.args.pieces.now)
    c.in_err-count-in-Arr.field-0.0 is k)

pub returns-in_err-chosen-in-Alt-clause-outcome : goal.returns-in_err-chosen-in-Alt-clause-outcome
returns-in_err-chosen-in-Alt-clause-outcome g c =
    let s = c.args.self.now.sheet.now in
    let message = g.M.Message.meaning c.args.self.now.message.now in
    let is : c.args.r.word ≡ words.Type type.Alt = c.requires.word
    ∙ ap (λ (w : TypeWord). words.Type w) c.in-Alt.is in
    let k = ap (λ t. needed_value (truth_value message s c.args.pieces.now c.args.here t))
    (sym c.target-in-Alt.ensures) ∙ sym c.in_err-chosen-in-Alt.ensures.truth in
    let p = err_from_is_err_and c.from_residual-in_err-chosen-in-Alt.result
    c.from_residual-in_err-chosen-in-Alt.ensures.1 in
    rw (p.1, p.2)
    (λ bars.
    refused_alt (text_of s) (rows_of s) s.ok c.args.row c.args.r c.requires.row message bars
    (path_of c.args.here.path) (records_of c.args.here) (placed_of c.args.pieces.now)
    c.in_err-chosen-in-Alt.field-0.0 is k)
