use Rattle.std.proofs.Common.{sym, ap, ◌∙◌, arith}
use Rattle.std.proofs.lemmas.Option.{slice_get-map, slice_get-get_or}
use Rattle.std.specs.Option.{option_map}
use Rattle.cells.specs.declared.cell.Cell.TheVariants.{Byte}
use Rattle.cells.specs.Cells.{answered, byte_cells}
use Rattle.cells.specs.Laws.{bytes_length}
use Rattle.cells.proofs.Nths.{nth_take}
use Rattle.cells.proofs.Tells.{answers}
use Rattle.cells.proofs.view.ViewSource.read.Goals as goal

pub bounds-self-k : goal.bounds-self-k
bounds-self-k c = omega (arith, c.len.ensures, bytes_length c.args.self.now.bytes.now)

pub returns : goal.returns
unfolding byte_cells
returns c =
    let bs = c.args.self.now.bytes.now in
    let k = c.args.k in
    let count = bytes_length bs in
    answers (sym (ap (answered k)
    (slice_get-map Byte _ k ∙ ap (option_map Byte) (nth_take 65535 bs k (omega (arith, c.len.ensures, count)) ∙ slice_get-get_or bs k 0 (omega (arith, c.len.ensures, count))))))
