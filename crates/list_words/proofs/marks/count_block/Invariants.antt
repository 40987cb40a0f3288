-- The bins passed are counted.
use Rattle.list_words.proofs.Counting.{Counting}
use Rattle.list_words.proofs.marks.count_block.Given as goal

abbrev pub invariant-loop-v : goal.invariant-loop-v
invariant-loop-v l = Counting l.mark l.bins l.v-index l.found
