-- What stands at a place is still the column of before.
use Rattle.std.proofs.Common.{arith}
use Rattle.payload_blocks.proofs.Turns.{column_below}
use Rattle.payload_blocks.proofs.generators.add_column.Goals as goal

pub raise-requires : goal.raise-requires
raise-requires c = (column_below c.loop-i.invariant c.requires.1 (omega arith), c.requires.2)
