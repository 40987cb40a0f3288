-- The sums of four bits.
use Rattle.transform.proofs.AddedHalves.{four_polarised}
use Rattle.transform.proofs.arikan.polarise_four.Goals as goal

pub returns : goal.returns
returns c = four_polarised c.requires.1 c.requires.0
