use Rattle.std.proofs.Common.{◌*◌}
use Rattle.tables.specs.Tab.{WroteRows, based_f}
use Rattle.tables.proofs.base.picks.Given as goal

abbrev pub invariant-loop-i : goal.invariant-loop-i
invariant-loop-i l = WroteRows (based_f l.last l.src l.sums l.odds l.evens l.b l.fn.t) (16 * l.dst) 16 l.i l.fn.t l.t
