use Rattle.std.proofs.Common.{◌+◌, ◌*◌, get_or}
use Rattle.tables.specs.Tab.{slot_start, WroteRows, flat16, base_f}
use Rattle.tables.proofs.base.ground.Given as goal

abbrev pub invariant-loop-r : goal.invariant-loop-r
invariant-loop-r l = WroteRows (λ r. flat16 (base_f l.last l.w l.l l.h l.b l.fn.t (get_or l.slots (l.os + r) 0) r))
    (16 * slot_start l.w l.l 0) (16 * l.w) l.r l.fn.t l.t
