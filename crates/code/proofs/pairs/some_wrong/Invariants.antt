-- The pairs that are left decide.
use Rattle.std.proofs.Common.{◌≡◌, ◌*◌, drop}
use Rattle.spec.specs.Code.{pairs_in}
use Rattle.spec.specs.Faults.{some}
use Rattle.spec.specs.Refusals.{wrong_pair}
use Rattle.laws.specs.MapBits.{flags_of}
use Rattle.code.proofs.pairs.some_wrong.Given as goal

abbrev pub invariant-loop-i : goal.invariant-loop-i
invariant-loop-i l = some (wrong_pair (flags_of l.n l.map)) (pairs_in l.pairs) ≡ some (wrong_pair (flags_of l.n l.map)) (pairs_in (drop (4 * l.i) l.pairs))
