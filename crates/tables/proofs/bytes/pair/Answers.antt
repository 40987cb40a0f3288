use Rattle.tables.proofs.Sums.{pair_wrote}
use Rattle.tables.proofs.bytes.pair.Goals as goal

pub returns : goal.returns
returns c = pair_wrote _ _ _ _ _ _ _ _ _ c.requires.5 c.requires.6 c.blend.ensures c.blend-2.ensures
