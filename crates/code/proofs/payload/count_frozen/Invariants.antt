-- The ones and the clear bits of the bytes passed are all their bits.
use Rattle.std.proofs.Common.{◌≡◌, ◌+◌, ◌*◌, ◌≤◌, take}
use Rattle.spec.specs.Bits.{unpacked}
use Rattle.spec.specs.Code.{clear}
use Rattle.code.proofs.payload.count_frozen.Given as goal

abbrev pub invariant-loop-x : goal.invariant-loop-x
invariant-loop-x l = (l.k ≤ 8 * l.x-index) × (l.k + clear (unpacked (take l.x-index l.map)) ≡ 8 * l.x-index)
