use Rattle.std.proofs.Common.{arith}
use Rattle.tables.proofs.Places.{slot_apart}
use Rattle.tables.proofs.top.top_cost.Goals as goal

pub bounds-b-odd : goal.bounds-b-odd
bounds-b-odd c = omega (
  arith,
  rw c.from-2.ensures at c.place.ensures.is,
  slot_apart 1 c.args.l c.args.o c.args.l c.requires.4,
)

pub next_costs-requires : goal.next_costs-requires
next_costs-requires c = omega (
  arith,
  rw c.from.ensures at c.place-at.ensures.is,
  slot_apart 1 c.args.l c.args.s c.args.l c.requires.3,
)
