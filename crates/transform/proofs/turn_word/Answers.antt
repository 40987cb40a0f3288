-- The whole slice is the word.
use Rattle.transform.proofs.WholeSlice.{whole_twice, whole_halved, whole_turned, whole_polarised}
use Rattle.transform.proofs.turn_word.Goals as goal

pub polarise-requires : goal.polarise-requires
polarise-requires g c = whole_twice c.requires

pub turn_at-requires : goal.turn_at-requires
turn_at-requires g c = whole_halved c.requires

pub returns-then-arikan : goal.returns-then-arikan
returns-then-arikan g c = rw c.if-arikan.true (whole_polarised c.requires _ c.polarise.ensures)

pub returns-else-arikan : goal.returns-else-arikan
returns-else-arikan g c = rw c.if-arikan.false (whole_turned c.requires _ c.turn_at.ensures)
