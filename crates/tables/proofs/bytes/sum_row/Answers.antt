use Rattle.tables.proofs.Sums.{sum_asks, sum_wrote}
use Rattle.tables.proofs.bytes.sum_row.Goals as goal

pub blend-requires : goal.blend-requires
blend-requires c = sum_asks _ _ _ _ _ _ _ _ c.requires.0.low c.requires.0.bytes c.requires.1 c.requires.2
    (rw c.from.ensures at c.place-from.ensures.is) c.place-at.ensures.is

pub returns : goal.returns
returns c = sum_wrote _ _ _ _ _ _ _ _ _ (rw c.from.ensures at c.place-from.ensures.is) c.place-at.ensures.is c.blend.ensures
