-- No value, and one value more.
use Rattle.std.proofs.Common.{refl, arith}
use Rattle.std.proofs.lemmas.Grind.{common_steps}
use Rattle.spec.specs.TestLoad.{draws, after_draws}
use Rattle.draws.proofs.Drawing.{after_next, noise_next}
use Rattle.draws.proofs.draw_soft.Goals as goal

pub loop-i-init : goal.loop-i-init
unfolding draws after_draws
loop-i-init c = record { state = refl; drawn = refl }

pub loop-i-preserved : goal.loop-i-preserved
loop-i-preserved c = record { state = grind (arith, after_next); drawn = grind (arith, common_steps, noise_next) }
