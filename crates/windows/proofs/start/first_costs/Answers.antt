use Rattle.std.proofs.Common.{◌≡◌, List, ◌∷◌, ℤ, refl, ap, ◌∙◌, ap₂, w16, SFits, to_z, of_z}
use mir.ValLaws.{to_z-of_z}
use Rattle.laws.specs.Windows.{F}
use Rattle.windows.specs.Op.{sixteen}
use Rattle.windows.proofs.Operator.{sixteen_wrote}
use Rattle.windows.proofs.start.first_costs.Goals as goal

pub returns : goal.returns
returns c =
    let back : (y : ℤ) → SFits w16 y → to_z w16 (of_z w16 y) ≡ y = to_z-of_z w16 in
    sixteen_wrote _ _ _ _ _
    (c.bottom_costs.ensures ∙ ap (λ (y : List ℤ). sixteen (F c.args.arikan y))
    (ap₂ ◌∷◌ (back c.args.a c.ranges.a)
    (ap₂ ◌∷◌ (back c.args.b c.ranges.b) (ap₂ ◌∷◌ (back c.args.c c.ranges.c) (ap₂ ◌∷◌ (back c.args.d c.ranges.d) refl)))))
    c.store.ensures
