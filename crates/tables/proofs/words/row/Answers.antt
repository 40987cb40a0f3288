use Rattle.std.proofs.Common.{arith, ◌*◌}
use Rattle.tables.proofs.Passes.{row_asks, row_wrote}
use Rattle.tables.proofs.Places.{slot_apart, slot_child}
use Rattle.tables.proofs.words.row.Goals as goal

pub pass-requires : goal.pass-requires
pass-requires c = row_asks _ _ _ _ _ _ _ _ _ _ _ c.requires.0 c.requires.1 c.requires.2 c.requires.3
    (rw c.from.ensures at c.place-src.ensures.is) (rw c.from-2.ensures at c.place.ensures.is) c.place-dst.ensures.is

pub finish_pass-requires : goal.finish_pass-requires
finish_pass-requires c = omega (
  arith,
  slot_child c.args.w c.args.l c.args.r c.args.s c.requires.1,
  slot_apart (2 * c.args.w) c.args.l c.args.s c.args.l c.requires.2,
)

pub returns : goal.returns
returns c = row_wrote _ _ _ _ _ _ _ _ _ _ _ _ _ _ _ _ c.requires.4
    (rw c.from.ensures at c.place-src.ensures.is) (rw c.from-2.ensures at c.place.ensures.is) c.place-dst.ensures.is
    c.pass.ensures c.finish_pass.ensures
