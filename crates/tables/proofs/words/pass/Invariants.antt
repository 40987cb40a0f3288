use Rattle.std.proofs.Common.{◌*◌}
use Rattle.tables.specs.Tab.{WroteRows, plain_f}
use Rattle.tables.proofs.words.pass.Given as goal

abbrev pub invariant-loop-i : goal.invariant-loop-i
invariant-loop-i l = WroteRows (plain_f l.even l.src l.w l.odds l.evens l.b l.fn.t) (16 * l.dst) 16 l.i l.fn.t l.t
