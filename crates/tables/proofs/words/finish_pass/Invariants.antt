use Rattle.std.proofs.Common.{◌*◌}
use Rattle.tables.specs.Tab.{WroteRows, finish_f}
use Rattle.tables.proofs.words.finish_pass.Given as goal

abbrev pub invariant-loop-i : goal.invariant-loop-i
invariant-loop-i l = WroteRows (finish_f l.arikan l.left l.dst l.fn.t) (16 * l.dst) 16 l.i l.fn.t l.t
