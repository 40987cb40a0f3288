-- No bit, and one bit more.
use Rattle.std.proofs.Common.{refl, arith}
use Rattle.std.proofs.lemmas.Grind.{common_steps}
use Rattle.spec.specs.TestLoad.{draws, after_draws}
use Rattle.draws.proofs.Drawing.{after_next, bits_next}
use Rattle.draws.proofs.draw_bits.Goals as goal

pub loop-bit-init : goal.loop-bit-init
unfolding draws after_draws
loop-bit-init c = record { state = refl; drawn = refl }

pub loop-bit-preserved : goal.loop-bit-preserved
loop-bit-preserved c = record { state = grind (arith, after_next); drawn = grind (arith, common_steps, bits_next) }
