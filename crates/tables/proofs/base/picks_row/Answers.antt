use Rattle.std.proofs.Common.{arith}
use Rattle.tables.proofs.Grounds.{base_wrote}
use Rattle.tables.proofs.Places.{slot_apart}
use Rattle.tables.proofs.base.picks_row.Goals as goal

pub picks-requires : goal.picks-requires
picks-requires c = omega (
  arith,
  rw c.from.ensures at c.place-q.ensures.is,
  slot_apart c.args.w c.args.l c.args.o c.args.l c.requires.2,
  slot_apart c.args.w c.args.l c.args.r c.args.l c.requires.1,
)

pub returns : goal.returns
returns c = base_wrote _ _ _ _ _ _ _ _ _ _ _ (rw c.from.ensures at c.place-q.ensures.is) c.place-dst.ensures.is c.picks.ensures
