-- The entries from k on stand one place higher, and are at least v.
use Rattle.live.proofs.Insertion.{Moved}
use Rattle.live.proofs.insert.Given as goal

abbrev pub invariant-loop-k : goal.invariant-loop-k
invariant-loop-k l = Moved l.fn.a l.a l.n l.v l.k
