-- The soft value by the exact value that IEEE 754, as the logic has it, gives to the bits: 64 times it, rounded and held. So nothing
-- about fields of bits has to be believed. Assumes nothing.
use Rattle.std.specs.Prelude.{◌≡◌, refl, Bool, true, false, not, ℕ, suc, ◌-◌, ◌*◌, ◌^◌, ◌≤◌, ◌<◌, min, T, pos, Float}
use Rattle.std.proofs.Common.{sym, ap, ap₂, subst, ◌∙◌, mul_comm, mul_assoc, arith, pow_pos}
use Rattle.std.proofs.Math.Nat.{eq_of_mul-eq-mul_right}
use Rattle.std.specs.Float.{nan, inf, binary32}
use Rattle.std.specs.Float.Ieee.{is_nan, of_bits, to_bits}
use Rattle.std.specs.Float.Ieee.Bits.{to_bits-of_bits}
use Rattle.std.specs.Float.Ieee.Exact.{HasValue}
use Rattle.spec.specs.Samples.{negative, units_of, nearest_to, signed_by, soft_of}
use Rattle.spec.specs.SamplesAreFloats.{number_value, number_below}
use Rattle.readings.specs.Parts.{part_of, soft_part}
use Rattle.readings.specs.SoftOfPart.{soft_bits}
use Rattle.readings.specs.Rounding.{nearest_same, half_at_most, more_than_half}
use Rattle.readings.specs.Product.{value_finite, two_fractions, soft_number, soft_infinite}

-- a number a / c of the sign s
pub soft_of_number : (b : ℕ) (s : Bool) (a c : ℕ) → 0 < c → HasValue (of_bits binary32 b) s a c → soft_of b ≡ signed_by s (min 2047 (nearest_to (64 * a) c))
soft_of_number b s a c C v =
    let l = number_below b (value_finite (of_bits binary32 b) s a c v) in
    let k = two_fractions (of_bits binary32 b) (negative b) s (units_of b) (2 ^ 149) a c (number_value b l) v in
    soft_number b l
    ∙ ap₂ (λ (z : Bool) (n : ℕ). signed_by z (min 2047 n)) k.0
    (nearest_same (units_of b) (2 ^ 143) (64 * a) c (pow_pos 143) C
    (eq_of_mul-eq-mul_right 64 (omega arith) (units_of b * c) (64 * a * 2 ^ 143)
    (ap (λ (n : ℕ). n * 64) k.1 ∙ mul_comm (a * 2 ^ 149) 64 ∙ sym (mul_assoc 64 a (2 ^ 149)) ∙ sym (mul_assoc (64 * a) (2 ^ 143) 64))))

-- an infinity
not_nan : (s : Bool) → T (not (is_nan (inf s)))
unfolding is_nan
not_nan s = tt

pub soft_of_infinity : (b : ℕ) (s : Bool) → b < 2 ^ 32 → of_bits binary32 b ≡ inf s → soft_of b ≡ signed_by s 2047
soft_of_infinity b s h e =
    let reads : T (not (is_nan (of_bits binary32 b))) = subst (λ (x : Float). T (not (is_nan x))) (sym e) (not_nan s) in
    ap soft_of (sym (to_bits-of_bits binary32 b h reads) ∙ ap (to_bits binary32) e) ∙ soft_infinite s

-- a NaN
pub soft_of_nan : (b : ℕ) → b < 2 ^ 32 → of_bits binary32 b ≡ nan → soft_of b ≡ pos 0
soft_of_nan b h e = sym (soft_bits b h) ∙ ap (λ (x : Float). soft_part (part_of x)) e

-- ---- what a number says: up to 1/128 in size nothing, and beyond that it keeps its sign
module _ (b : ℕ) (s : Bool) (a c : ℕ) (C : 0 < c) (v : HasValue (of_bits binary32 b) s a c) where
  none_of : (k : Bool) → signed_by k 0 ≡ pos 0
  none_of true = refl
  none_of false = refl

  pub weak_says_nothing : 128 * a ≤ c → soft_of b ≡ pos 0
  weak_says_nothing h =
      soft_of_number b s a c C v ∙ ap (λ (n : ℕ). signed_by s (min 2047 n)) (sym (half_at_most (64 * a) c C (omega arith))) ∙ none_of s

  pub strong_keeps_sign : c < 128 * a → (k : ℕ) × (soft_of b ≡ signed_by s (suc k))
  strong_keeps_sign h = (
    min 2047 (nearest_to (64 * a) c) - 1,
    soft_of_number b s a c C v ∙ ap (signed_by s) (held (nearest_to (64 * a) c) (more_than_half (64 * a) c C (omega arith))),
  )
    where
      held : (n : ℕ) → 1 ≤ n → min 2047 n ≡ suc (min 2047 n - 1)
      held n h = omega arith
