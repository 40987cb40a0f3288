-- One sum more.
use Rattle.transform.proofs.AddedHalves.{adding_turn}
use Rattle.transform.proofs.arikan.add_halves.Goals as goal

pub loop-i-preserved : goal.loop-i-preserved
loop-i-preserved c = adding_turn c.requires.0 c.loop-i.invariant c.requires.1 c.loop-i-test.true
