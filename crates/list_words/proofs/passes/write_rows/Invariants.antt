-- The rows of the payloads before q are written.
use Rattle.code.specs.Codes.{code_of}
use Rattle.std.proofs.Common.{length}
use Rattle.list_words.proofs.Passing.{Writing}
use Rattle.list_words.proofs.passes.write_rows.Given as goal

abbrev pub invariant-loop-q : goal.invariant-loop-q
invariant-loop-q l =
    Writing (code_of l.code) l.soft l.mark l.r (length l.fn.payload) (length l.fn.word) (length l.fn.bins)
    (length l.fn.inputs) (length l.fn.words) (length l.fn.scores) l.payload l.word l.bins l.inputs l.words l.scores l.found l.q
