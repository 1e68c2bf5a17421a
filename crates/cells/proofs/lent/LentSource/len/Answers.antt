use Rattle.std.proofs.Common.{sym}
use Rattle.cells.specs.Laws.{lent_length}
use Rattle.cells.proofs.lent.LentSource.len.Goals as goal

pub returns : goal.returns
returns g c = rw (c.min.ensures, c.WIDTH.ensures, c.WIDTH-2.ensures) (sym (lent_length g.U.Unit.laws c.args.self.now.units.now))
