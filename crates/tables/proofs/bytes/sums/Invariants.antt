use Rattle.std.proofs.Common.{◌+◌, get_or}
use Rattle.tables.specs.Tab.{slot_start, WroteRows, sum_f}
use Rattle.tables.proofs.bytes.sums.Given as goal

abbrev pub invariant-loop-r : goal.invariant-loop-r
invariant-loop-r l = WroteRows (λ r. sum_f l.w l.l l.h l.fn.b (get_or l.slots (l.ws + r) 0) r)
    (l.h + slot_start l.w l.l 0) l.w l.r l.fn.b l.b
