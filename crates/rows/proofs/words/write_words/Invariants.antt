-- The first r words are there, and 0 behind them.
use Rattle.std.proofs.Common.{length}
use Rattle.rows.proofs.Filling.{Filling}
use Rattle.rows.proofs.WordRows.{word_rows}
use Rattle.rows.proofs.words.write_words.Given as goal

abbrev pub invariant-loop-r : goal.invariant-loop-r
invariant-loop-r l = Filling l.n l.r (length l.fn.words) (word_rows l.m l.arikan l.n l.inputs l.r) l.words
