use Rattle.std.proofs.Common.{arith}
use Rattle.tables.proofs.Ending.{odd_asks, end_odd, ground_asks, end_ground, first_asks, end_first, two_of}
use Rattle.tables.proofs.walk.turn.Goals as goal

pub turn_odd-requires : goal.turn_odd-requires
turn_odd-requires c =
    let a = odd_asks c.args.shape.arikan _ _ _ _ _ _ _ _ _ _ _ _ c.requires in
    record { fit_bits = a.0; slots = a.1 }

pub returns-then-end-eq1 : goal.returns-then-end-eq1
returns-then-end-eq1 c = end_odd _ _ _ _ _ _ _ _ _ _ _ _ _ c.requires _ _ (omega (arith, c.if-end-eq1.true))
    c.turn_odd.ensures.0 c.turn_odd.ensures.1

pub turn_ground-requires : goal.turn_ground-requires
turn_ground-requires c =
    let a = ground_asks c.args.shape.arikan _ _ _ _ _ _ _ _ _ _ _ _ c.requires (omega arith) in
    record { fit_bottom = a.0; slots = a.1 }

pub returns-then-end-shape : goal.returns-then-end-shape
returns-then-end-shape c = end_ground _ _ _ _ _ _ _ _ _ _ _ _ _ _ _ _ c.requires (omega arith)
    (λ e. omega (arith, c.if-end-eq1.false)) (two_of c.args.end.x) c.turn_ground.ensures.0 c.turn_ground.ensures.1

pub rise-requires : goal.rise-requires
rise-requires c =
    let a = first_asks c.args.shape.arikan _ _ _ _ _ _ _ _ _ _ _ _ c.requires (omega (arith, c.if-end-shape.false, c.requires.climbs.far)) in
    record { fit_windows = a.0; slots = a.1 }

pub returns-else-end-shape : goal.returns-else-end-shape
returns-else-end-shape c = end_first _ _ _ _ _ _ _ _ _ _ _ _ _ c.requires _ _ (λ e. omega (arith, c.if-end-eq1.false))
    (omega (arith, c.if-end-shape.false, c.requires.climbs.far)) c.rise.ensures.0 c.rise.ensures.1
