use Rattle.std.proofs.Common.{◌≡◌, ◌-◌, ◌++◌, take}
use Rattle.spec.specs.RecordOf.{low_first}
use Rattle.numbers.proofs.put_low.Given as goal

-- what is written, and what is left to write, are the bytes of x
abbrev pub invariant-loop-b : goal.invariant-loop-b
invariant-loop-b l = low_first l.count l.x ≡ take l.b-index l.b-items ++ low_first (l.count - l.b-index) l.rest
