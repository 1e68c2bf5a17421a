use Rattle.std.proofs.Common.{◌/◌, ◌<◌, length, arith, rules}
use Rattle.cells.proofs.Lents.{unit_within, lent_read}
use Rattle.cells.proofs.lent.LentSource.read.Goals as goal

pub offset_bounds-self-k : goal.offset_bounds-self-k
offset_bounds-self-k g c =
    let within = unit_within g.U.Unit.laws c.args.self.now.units.now c.args.k (omega arith) in
    let h : c.args.k / c.WIDTH.result < length c.args.self.now.units.now = rw c.WIDTH.ensures within in
    search rules

pub bounds-self-k : goal.bounds-self-k
bounds-self-k g c =
    let within = unit_within g.U.Unit.laws c.args.self.now.units.now c.args.k (omega arith) in
    let h : c.args.k / c.WIDTH.result < length c.args.self.now.units.now = rw c.WIDTH.ensures within in
    omega arith

pub returns : goal.returns
returns g c =
    lent_read g.U.Unit.laws c.args.self.now.units.now c.args.k (omega arith) _ _
    (rw (c.WIDTH.ensures, c.WIDTH-2.ensures) at c.byte.ensures)
