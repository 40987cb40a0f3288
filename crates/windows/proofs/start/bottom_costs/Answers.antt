use Rattle.std.proofs.Common.{◌≡◌, ℤ, ap, ◌∙◌, ap₂, w16, SFits, to_z, of_z}
use mir.ValLaws.{to_z-of_z}
use Rattle.windows.specs.Op.{rearranged, bottom_order_at}
use Rattle.windows.specs.Start.{pair_costs, word_costs}
use Rattle.windows.proofs.Operator.{bottom_is}
use Rattle.windows.proofs.start.bottom_costs.Goals as goal

pub returns : goal.returns
returns c =
    let back : (y : ℤ) → SFits w16 y → to_z w16 (of_z w16 y) ≡ y = to_z-of_z w16 in
    let p = c.pair_costs-p.ensures.0 ∙ ap₂ pair_costs (back c.args.a c.ranges.a) (back c.args.b c.ranges.b) in
    let q = c.pair_costs-q.ensures.0 ∙ ap₂ pair_costs (back c.args.c c.ranges.c) (back c.args.d c.ranges.d) in
    c.bottom_ordered.ensures ∙ ap (rearranged (bottom_order_at c.args.arikan)) (c.word_costs.ensures ∙ ap₂ word_costs p q)
    ∙ bottom_is c.args.arikan c.args.a c.args.b c.args.c c.args.d
