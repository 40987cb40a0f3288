use Rattle.std.proofs.Common.{◌*◌}
use Rattle.spec.specs.Score.{taken}
use Rattle.laws.specs.Windows.{F}
use Rattle.laws.specs.Soft.{four_at}
use Rattle.tables.specs.Tab.{WroteRows}
use Rattle.tables.proofs.start.lay_costs.Given as goal

abbrev pub invariant-loop-i : goal.invariant-loop-i
invariant-loop-i l = WroteRows (λ i. F l.arikan (four_at (taken l.soft) l.q i)) (16 * l.dst) 16 l.i l.fn.t l.t
