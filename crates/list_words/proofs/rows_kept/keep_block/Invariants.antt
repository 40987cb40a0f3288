-- The bins passed are done.
use Rattle.code.specs.Codes.{code_of}
use Rattle.std.proofs.Common.{length}
use Rattle.list_words.proofs.KeepingBlock.{Keeping}
use Rattle.list_words.proofs.rows_kept.keep_block.Given as goal

abbrev pub invariant-loop-i : goal.invariant-loop-i
invariant-loop-i l =
    Keeping (code_of l.code) l.mark l.bins l.from l.q (length l.fn.payload) l.fn.inputs l.fn.words l.fn.scores
    l.payload l.inputs l.words l.scores l.found l.i
