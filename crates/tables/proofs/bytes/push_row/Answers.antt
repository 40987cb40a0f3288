use Rattle.tables.proofs.Sums.{push_asks, push_wrote}
use Rattle.tables.proofs.bytes.push_row.Goals as goal

pub pair-requires : goal.pair-requires
pair-requires c = push_asks _ _ _ _ _ _ c.requires.0.low c.requires.1 c.requires.2 c.requires.3 _ _ _ _ c.requires.0.bytes
    (rw c.from.ensures at c.place-from.ensures.is) c.place-e.ensures.is (rw c.place.ensures.is)

pub returns : goal.returns
returns c = push_wrote _ _ _ _ _ _ _ _ _ _ _ _ (rw c.from.ensures at c.place-from.ensures.is) c.place-e.ensures.is
    c.place.ensures.is c.pair.ensures
