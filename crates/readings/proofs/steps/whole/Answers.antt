-- Held, made a whole number of 2^-24, and rounded.
use mathlib.Core.Path.{◌≡◌, sym, ap, ◌∙◌}
use Prim.Native.Nat.{ℕ, ◌*◌, ◌^◌, ◌≤◌, min}
use native.Mathlib.Nat.{mul_assoc}
use native.Mathlib.Omega.{arith}
use lib.Pow.{pow_pos}
use lib.Ieee.{binary32, to_bits}
use Rattle.spec.specs.Samples.{nearest_to, units_of}
use Rattle.readings.specs.Rounding.{nearest_same}
use Rattle.readings.specs.Product.{held_whole}
use Rattle.readings.proofs.steps.whole.Goals as goal

-- k of 2^-24 are as much as the units of b, and what is not above 2,047 is held as it is
rounded_as : (b k r : ℕ) → k * 2 ^ 125 ≡ units_of b → r ≡ nearest_to k (2 ^ 24) → r ≤ 2047 → r ≡ held_whole b
rounded_as b k r e n h =
    free r h ∙ ap (min 2047) (n ∙ nearest_same k (2 ^ 24) (units_of b) (2 ^ 149) (pow_pos 24) (pow_pos 149)
    (sym (mul_assoc k (2 ^ 125) (2 ^ 24)) ∙ ap (λ (z : ℕ). z * 2 ^ 24) e))
  where
    free : (n : ℕ) → n ≤ 2047 → n ≡ min 2047 n
    free n h = omega arith

pub returns : goal.returns
returns c = (
  rounded_as (to_bits binary32 c.at_least-y.result) c.in_fine_steps.result c.nearest.result c.in_fine_steps.ensures.0 c.nearest.ensures.0 c.nearest.ensures.1
      ∙ c.at_least-y.ensures.0 ∙ c.at_most.ensures.0,
  c.nearest.ensures.1,
)
