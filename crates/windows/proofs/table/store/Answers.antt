use Rattle.windows.proofs.Runs.{halves_wrote}
use Rattle.windows.proofs.table.store.Goals as goal

pub returns : goal.returns
returns c = halves_wrote _ _ _ _ _ _ _ c.low.ensures c.high.ensures c.store_half.ensures c.store_half-2.ensures
