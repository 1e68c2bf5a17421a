use Rattle.std.proofs.Common.{◌≤◌, length, take, sym, ap, ◌∙◌, subst, arith}
use Rattle.std.proofs.lemmas.List.{length-map, length-take, take-map}
use Rattle.line.specs.Fills.{Appends}
use Rattle.sheet.specs.Sheets.{rows_of, text_of}
use Rattle.meaning.specs.Readings.{Reads}
use Rattle.meaning.specs.Laying.{laid_in}
use Rattle.meaning.specs.Terms.{piece_of, pieces_of, total}
use Rattle.reading.proofs.Lays.{covers}
use Rattle.listing.specs.Lines.{fault, laid, lines_of, whole_text}
use Rattle.listing.proofs.LaidLengths.{laid_long}
use Rattle.listing.proofs.Wholes.{given_is, refused_is}
use Rattle.listing.proofs.write_message.Goals as goal

pub returns-in-Err-clause-value : goal.returns-in-Err-clause-value
returns-in-Err-clause-value g c =
    let sheet = c.args.sheet.now in
    let cells = g.S.Source.cells c.args.source.now in
    let m = laid_in (text_of sheet) (rows_of sheet) cells (length c.args.pieces.now) in
    let same = ap (λ t. whole_text (lines_of (fault t))) c.from.ensures
    ∙ ap (λ o. whole_text (lines_of o))
    (sym (refused_is (rows_of sheet) cells m _ c.in-Err.ensures.told)) in
    subst (λ t. Appends c.args.out.now t c.push-in-Err.result c.push-in-Err.new.self) same
    c.push-in-Err.ensures.value

pub returns-in-Err-clause-fits : goal.returns-in-Err-clause-fits
returns-in-Err-clause-fits g c h k =
    let sheet = c.args.sheet.now in
    let cells = g.S.Source.cells c.args.source.now in
    let m = laid_in (text_of sheet) (rows_of sheet) cells (length c.args.pieces.now) in
    let same = ap (λ t. whole_text (lines_of (fault t))) c.from.ensures
    ∙ ap (λ o. whole_text (lines_of o))
    (sym (refused_is (rows_of sheet) cells m _ c.in-Err.ensures.told)) in
    subst (λ t. length t ≤ 262144) same (omega (arith, c.push-in-Err.ensures.short))

pub returns-in-Ok-clause-fits : goal.returns-in-Ok-clause-fits
returns-in-Ok-clause-fits g c h k =
    let sheet = c.args.sheet.now in
    let rows = rows_of sheet in
    let cells = g.S.Source.cells c.args.source.now in
    let m = laid_in (text_of sheet) rows cells (length c.args.pieces.now) in
    let ps = take c.in-Ok.cover.pieces c.lay.new.pieces in
    let before = pieces_of c.args.pieces.now in
    let is = covers (text_of sheet) rows cells before c.in-Ok.cover _ c.in-Ok.ensures.reading.lays
    in
    let same = given_is rows cells m _ _ c.in-Ok.ensures.told
    ∙ ap (λ T. laid rows cells T c.in-Ok.cover.width) (sym c.in-Ok.ensures.front) in
    let cut = take-map piece_of c.in-Ok.cover.pieces c.lay.new.pieces in
    let long = laid_long (text_of sheet) rows cells ps c.in-Ok.cover.width
    (subst (Reads (text_of sheet) rows cells) cut is.0.0) (is.2 ∙ ap total cut)
    (omega (
      arith,
      is.1,
      is.0.1,
      length-map c.args.pieces.now piece_of,
      length-take
          c.in-Ok.cover.pieces c.lay.new.pieces,
    )) k in
    subst (λ o. length (whole_text (lines_of o)) ≤ 262144) (sym same) long
