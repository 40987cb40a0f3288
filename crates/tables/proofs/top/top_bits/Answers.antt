use Rattle.std.proofs.Common.{arith, ◌%◌, refl}
use Rattle.tables.proofs.Places.{slot_at}
use Rattle.tables.proofs.Sums.{wrote_step}
use Rattle.tables.proofs.Walks.{field_le}
use Rattle.tables.proofs.top.top_bits.Goals as goal

pub bounds-b-at : goal.bounds-b-at
bounds-b-at c = omega (arith, field_le c.args.h (c.args.n % 2), slot_at 1 c.args.l c.args.l)

pub loop-r-preserved : goal.loop-r-preserved
loop-r-preserved c =
    wrote_step _ _ _ _ _ _ (omega (arith, field_le c.args.h (c.args.n % 2), slot_at 1 c.args.l c.args.l)) refl
    c.loop-r.invariant
