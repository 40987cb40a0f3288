-- A layer over halves of four bits.
use Rattle.std.proofs.Common.{◌+◌, ◌*◌}
use Rattle.transform.proofs.Layers.{half_first, half_second, before_kept, turned_kept, turned_layer}
use Rattle.transform.proofs.base.eight.Goals as goal

pub four-requires : goal.four-requires
four-requires g c = half_first 4 (before_kept 2 c.requires _ c.to_halves.ensures)

pub four-requires-2 : goal.four-requires-2
four-requires-2 g c = half_second 4 (turned_kept c.args.at (2 * c.args.d) 2 _ c.four.ensures (before_kept 2 c.requires _ c.to_halves.ensures))

pub from_halves-requires : goal.from_halves-requires
from_halves-requires g c =
    turned_kept (c.args.at + c.args.d) (2 * c.args.d) 2 _ c.four-2.ensures
    (turned_kept c.args.at (2 * c.args.d) 2 _ c.four.ensures (before_kept 2 c.requires _ c.to_halves.ensures))

pub returns : goal.returns
returns g c = turned_layer 2 c.requires _ c.to_halves.ensures c.four.ensures c.four-2.ensures c.from_halves.ensures
