use Rattle.std.proofs.Common.{◌+◌, ◌*◌, get_or}
use Rattle.tables.specs.Tab.{slot_start, WroteRows, push_f}
use Rattle.tables.proofs.bytes.push.Given as goal

abbrev pub invariant-loop-r : goal.invariant-loop-r
invariant-loop-r l = WroteRows (λ r. push_f l.arikan l.w l.l l.h l.fn.b (get_or l.slots (l.os + r) 0) r)
    (l.f + slot_start (2 * l.w) l.l 0) (2 * l.w) l.r l.fn.b l.b
