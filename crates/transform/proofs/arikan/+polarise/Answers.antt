-- Each call is lent a half.
use Rattle.std.proofs.Common.{arith}
use Rattle.transform.proofs.AddedHalves.{first_call, second_call, arikan_done}
use Rattle.transform.proofs.arikan.+polarise.Goals as goal

pub polarise-requires : goal.polarise-requires
polarise-requires t c = (omega arith, rw c.split_at_mut-v.ensures.front (first_call c.requires (omega arith) c.add_halves.ensures))

pub polarise-requires-2 : goal.polarise-requires-2
polarise-requires-2 t c = (omega arith, rw c.split_at_mut-v.ensures.back (second_call c.requires (omega arith) c.add_halves.ensures))

pub returns : goal.returns
returns t c =
    arikan_done c.requires (omega arith) c.add_halves.ensures
    (rw c.split_at_mut-v.ensures.front at c.polarise.ensures)
    (rw c.split_at_mut-v.ensures.back at c.polarise-2.ensures)
