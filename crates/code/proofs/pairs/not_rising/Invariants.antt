-- The pairs from the one before the place on decide.
use Rattle.std.proofs.Common.{◌≡◌, ◌-◌, ◌*◌, drop}
use Rattle.spec.specs.Code.{pairs_in}
use Rattle.spec.specs.Refusals.{not_rising}
use Rattle.code.proofs.pairs.not_rising.Given as goal

abbrev pub invariant-loop-i : goal.invariant-loop-i
invariant-loop-i l = not_rising (pairs_in l.pairs) ≡ not_rising (pairs_in (drop (4 * l.i - 4) l.pairs))
