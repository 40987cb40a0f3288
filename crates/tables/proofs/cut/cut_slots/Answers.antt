use Rattle.std.proofs.Common.{arith}
use Rattle.tables.proofs.Cutting.{cut_both}
use Rattle.tables.proofs.cut.cut_slots.Goals as goal

pub returns : goal.returns
returns c = cut_both _ _ _ _ _ _ (omega arith) (omega arith) c.cut_rows.ensures c.cut_rows-2.ensures
