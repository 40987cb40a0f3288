use Rattle.std.proofs.Common.{length, replicate, arith, refl}
use Rattle.positions.specs.Running.{zeros_at}
use Rattle.positions.proofs.Looping.{looping_start, looping_more, looping_end}
use Rattle.positions.proofs.block.positions.Goals as goal

pub loop-i-init : goal.loop-i-init
loop-i-init c =
    let a = c.args in
    let e = c.start-s.ensures in
    looping_start a.arikan a.deep a.l a.h a.n a.p (length a.rows.now) a.map.now a.pairs.now a.t.now a.b.now c.requires (replicate 1024 0) c.start-s.result refl (zeros_at 1024) e.0 e.1 e.2

pub loop-i-preserved : goal.loop-i-preserved
loop-i-preserved c =
    let a = c.args in
    let k = c.loop-i in
    let w = c.own_bits-kept in
    let m = c.position-s in
    looping_more a.arikan a.deep a.l a.h a.n a.p (length a.rows.now) a.map.now a.pairs.now a.t.now a.b.now c.requires
    k.i k.from k.kept.seen k.kept.held k.t k.b k.slots k.s k.invariant (omega arith)
    c.run_end-to.result c.run_end-to.ensures.0 c.run_end-to.ensures.1 w.result.seen w.result.held w.new.b _ w.auto.b w.ensures
    m.new.t m.new.b m.new.slots m.result m.auto.b m.auto.slots m.ensures.0 m.ensures.1 m.ensures.2

pub returns : goal.returns
returns c =
    let a = c.args in
    let k = c.loop-i in
    looping_end a.arikan a.deep a.l a.h a.n a.p k.i k.from k.kept.seen k.kept.held a.map.now a.pairs.now a.t.now a.b.now k.t k.b k.slots k.s (omega arith) k.invariant
