use Rattle.std.proofs.Common.{◌/◌, ◌<◌, length, arith, rules}
use Rattle.cells.specs.Laws.{lent_whole}
use Rattle.cells.proofs.Lents.{unit_within, lent_read, lent_after, lent_spared}
use Rattle.cells.proofs.lent.LentStore.write.Goals as goal

pub returns-then-k-len-clause-whole : goal.returns-then-k-len-clause-whole
returns-then-k-len-clause-whole g c = lent_whole g.U.Unit.laws c.args.self.now.units.now

pub offset_bounds-self-k : goal.offset_bounds-self-k
offset_bounds-self-k g c =
    let within = unit_within g.U.Unit.laws c.args.self.now.units.now c.args.k (omega arith) in
    let h : c.args.k / c.WIDTH.result < length c.args.self.now.units.now = rw c.WIDTH.ensures within in
    search rules

pub bounds-self-k : goal.bounds-self-k
bounds-self-k g c =
    let within = unit_within g.U.Unit.laws c.args.self.now.units.now c.args.k (omega arith) in
    let h : c.args.k / c.WIDTH.result < length c.args.self.now.units.now = rw c.WIDTH.ensures within in
    omega arith

pub returns-clause-whole : goal.returns-clause-whole
returns-clause-whole g c = lent_whole g.U.Unit.laws c.args.self.now.units.now

pub returns-clause-answer : goal.returns-clause-answer
returns-clause-answer g c =
    lent_read g.U.Unit.laws c.args.self.now.units.now c.args.k (omega arith) c.index-self-k.result c.byte-old.result
    (rw (c.WIDTH.ensures, c.WIDTH-2.ensures) at c.byte-old.ensures)

pub returns-clause-after : goal.returns-clause-after
returns-clause-after g c =
    rw c.WIDTH.ensures
    (lent_after g.U.Unit.laws c.args.self.now.units.now c.args.k (omega arith) c.index-self-k.result c.with_byte.result c.args.b
    (rw (c.WIDTH.ensures, c.WIDTH-3.ensures) at c.with_byte.ensures))

pub returns-clause-spares : goal.returns-clause-spares
returns-clause-spares g c = rw c.WIDTH.ensures (lent_spared g.U.Unit.laws c.args.self.now.units.now c.args.k (omega arith) c.with_byte.result)
