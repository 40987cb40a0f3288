use Rattle.std.proofs.Common.{get_or}
use Rattle.windows.specs.Op.{Wrote}
use Rattle.live.specs.Entries.{parent_of, bit_of}
use Rattle.positions.proofs.position.lineage.Given as goal

abbrev pub invariant-loop-r : goal.invariant-loop-r
invariant-loop-r l = Wrote (λ k. parent_of (get_or l.code k 0)) 0 l.r l.fn.parents l.parents × Wrote (λ k. bit_of (get_or l.code k 0)) 0 l.r l.fn.bits l.bits
