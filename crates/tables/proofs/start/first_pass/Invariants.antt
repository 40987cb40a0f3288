use Rattle.std.proofs.Common.{◌*◌}
use Rattle.tables.specs.Start.{first_f}
use Rattle.tables.specs.Tab.{WroteRows}
use Rattle.tables.proofs.start.first_pass.Given as goal

abbrev pub invariant-loop-i : goal.invariant-loop-i
invariant-loop-i l = WroteRows (first_f l.arikan l.src l.w l.fn.t) (16 * l.dst) 16 l.i l.fn.t l.t
