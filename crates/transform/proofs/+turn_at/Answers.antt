-- Each call works on a half.
use mathlib.Core.List.{not-mem-nil}
use Rattle.std.proofs.Common.{◌<◌, arith}
use Rattle.transform.proofs.Halving.{turn_first, turn_second, for_after, turn_done}
use Rattle.transform.proofs.+turn_at.Goals as goal

-- (rattle's own part of these two goals, on the lifetimes, stays open in a recursion with a const parameter)
pub turn_at-requires-whole : goal.turn_at-requires-whole
turn_at-requires-whole g t c κs =
    let more : 3 < c.args.m = omega arith in
    (omega arith, ((λ a z. absurd (not-mem-nil z)), turn_first c.requires more _ c.to_halves.ensures))

pub turn_at-requires-2-whole : goal.turn_at-requires-2-whole
turn_at-requires-2-whole g t c κs =
    let more : 3 < c.args.m = omega arith in
    (omega arith, ((λ a z. absurd (not-mem-nil z)), turn_second c.requires more _ c.to_halves.ensures c.turn_at.ensures))

pub from_halves-requires : goal.from_halves-requires
from_halves-requires g t c =
    let more : 3 < c.args.m = omega arith in
    for_after c.requires more _ c.to_halves.ensures c.turn_at.ensures c.turn_at-2.ensures

pub returns : goal.returns
returns g t c =
    let more : 3 < c.args.m = omega arith in
    turn_done c.requires more _ c.to_halves.ensures c.turn_at.ensures c.turn_at-2.ensures c.from_halves.ensures
