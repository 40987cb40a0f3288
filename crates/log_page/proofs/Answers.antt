-- A step is made as one that it equals. Assumes nothing.
use Rattle.std.proofs.Common.{◌≡◌, subst, ℕ, List}
use Rattle.log_page.specs.Steps.{Step}
use Rattle.log_page.specs.Made.{Made}
use Rattle.log_page.specs.declared.steps.LogStep.{LogStep}

pub made_same : {x y : Step} {t u : List ℕ} {r : LogStep} → x ≡ y → Made x t r u → Made y t r u
made_same {t = t} {u = u} {r = r} e m = subst (λ (z : Step). Made z t r u) e m
