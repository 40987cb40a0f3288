use Rattle.std.proofs.Common.{arith, ◌≡◌, ◌-◌}
use Rattle.tables.proofs.Starting.{bottom_fits, rows_copied, start_bottom, start_done, start_fits, start_more, width_of}
use Rattle.tables.proofs.start.start.Goals as goal

pub copy_within-requires-clause-dest_in_bounds : goal.copy_within-requires-clause-dest_in_bounds
copy_within-requires-clause-dest_in_bounds c =
    let f = bottom_fits c.args.arikan _ _ _ _ _ _ c.requires in
    omega (arith, f.0)

pub loop-d-init : goal.loop-d-init
loop-d-init c =
    let e = c.copy_within.ensures.by_index in
    start_bottom _ _ _ _ _ _ _ c.requires _ _ c.lay_costs.ensures
    (rw c.place.ensures.is at (rows_copied _ _ _ _ _ _ _ _ (omega arith) c.lay_costs.ensures c.copy_within.ensures.len e.0 e.1 e.2))

pub first_layer-requires : goal.first_layer-requires
first_layer-requires c =
    rw (width_of (c.loop-d.d - 1) (omega (arith, c.requires.deepest)))
    (start_fits c.args.arikan _ _ _ _ _ _ c.requires (c.loop-d.d - 1) _ (c.loop-d.invariant.rest.same) (omega arith))

pub loop-d-preserved : goal.loop-d-preserved
loop-d-preserved c =
    start_more _ _ _ _ _ _ _ c.requires c.loop-d.d (c.loop-d.d - 1) _ _ (omega arith) c.loop-d.invariant
    (rw (width_of (c.loop-d.d - 1) (omega (arith, c.requires.deepest))) at c.first_layer.ensures)

pub returns : goal.returns
returns c =
    let e : c.loop-d.d ≡ 0 = omega arith in
    start_done _ _ _ _ _ _ _ c.requires _ (rw e at c.loop-d.invariant)
