-- The payloads before q are counted.
use Rattle.code.specs.Codes.{code_of}
use Rattle.std.proofs.Common.{length}
use Rattle.list_words.proofs.Passing.{Passing}
use Rattle.list_words.proofs.passes.count_words.Given as goal

abbrev pub invariant-loop-q : goal.invariant-loop-q
invariant-loop-q l =
    Passing (code_of l.code) l.soft l.mark l.r (length l.fn.payload) (length l.fn.word) (length l.fn.bins)
    l.payload l.word l.bins l.found l.q
