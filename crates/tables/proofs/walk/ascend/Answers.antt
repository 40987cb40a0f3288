use Rattle.std.proofs.Common.{arith, ◌≡◌}
use Rattle.tables.proofs.Rises.{climb_start, climb_fits, climb_asks, climb_more}
use Rattle.tables.proofs.walk.ascend.Goals as goal

pub loop-d-init : goal.loop-d-init
loop-d-init c = climb_start _ _ _ _ _ _ _ _ _ _ _ _ _ c.requires.climbs c.requires.named

pub rise-requires : goal.rise-requires
rise-requires c = record {
  fit_windows = climb_fits c.args.shape.arikan _ _ _ _ _ _ _ _ _ _ _ _ c.requires.climbs _ _ _ _ _ _ c.loop-d.invariant (omega arith);
  slots = climb_asks c.args.shape.arikan _ _ _ _ _ _ _ _ _ _ _ _ c.requires.climbs _ _ _ _ _ _ c.loop-d.invariant (omega arith);
}

pub loop-d-preserved : goal.loop-d-preserved
loop-d-preserved c = climb_more _ _ _ _ _ _ _ _ _ _ _ _ _ c.requires.climbs _ _ _ _ _ _ c.loop-d.invariant (omega arith)
    _ _ _ c.after_odd_bit.ensures c.rise.ensures.0 c.rise.ensures.1

pub returns : goal.returns
returns c =
    let e : c.loop-d.d ≡ 0 = omega arith in
    (c.loop-d.invariant.names, c.loop-d.invariant.kept, rw e at c.loop-d.invariant.ascent)
