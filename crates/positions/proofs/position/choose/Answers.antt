use Rattle.std.proofs.Common.{sym, ◌∙◌, get_or}
use Rattle.spec.specs.Bits.{unpacked}
use Rattle.positions.proofs.Choosing.{flag_one, chosen_clear, chosen_frozen}
use Rattle.positions.proofs.position.choose.Goals as goal

pub returns-then-flag-eq0 : goal.returns-then-flag-eq0
returns-then-flag-eq0 c =
    let a = c.args in
    let w = c.top_costs.ensures in
    chosen_clear (get_or (unpacked a.map.now) a.i 0) a.i a.l a.h a.t.now a.b.now a.slots.now a.bits.now a.s c.clear.result _ _ _ _ w.0 w.1
    (sym c.flag.ensures ∙ c.if-flag-eq0.true) c.clear.ensures

pub returns : goal.returns
returns c =
    let a = c.args in
    let w = c.top_costs.ensures in
    chosen_frozen (get_or (unpacked a.map.now) a.i 0) a.i a.l a.h a.t.now a.b.now a.slots.now a.bits.now a.s c.freeze.result _ _ _ _ w.0 w.1
    (flag_one a.map.now a.i (λ e. c.if-flag-eq0.false (c.flag.ensures ∙ e))) _ _ c.own_costs.ensures c.freeze.ensures
