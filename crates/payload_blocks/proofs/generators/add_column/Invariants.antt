-- The columns passed have the word added.
use Rattle.payload_blocks.proofs.Turns.{Raising}
use Rattle.payload_blocks.proofs.generators.add_column.Given as goal

abbrev pub invariant-loop-i : goal.invariant-loop-i
invariant-loop-i l = Raising l.h l.fn.cols l.word l.cols l.i
