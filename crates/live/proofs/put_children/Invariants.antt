-- The list has the best l children of the first i entries.
use Rattle.std.proofs.Common.{take, leb}
use Rattle.spec.specs.Decoder.{sort_by}
use Rattle.live.specs.Entries.{children_of}
use Rattle.live.specs.Lists.{Filled}
use Rattle.live.proofs.put_children.Given as goal

abbrev pub invariant-loop-i : goal.invariant-loop-i
invariant-loop-i l = Filled l.out l.m l.l (take l.l (sort_by leb (children_of l.frozen l.entries l.bits l.firsts l.ones l.i)))
