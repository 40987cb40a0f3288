-- The product's bits tell the soft value of the reading.
use mathlib.Core.Path.{◌≡◌, sym, ap, ap₂, subst, ◌∙◌}
use mathlib.Core.Bool.{Bool, not}
use Prim.Native.Nat.{ℕ, ◌/◌, ◌%◌, ◌^◌, ◌≤◌, ◌<◌, min}
use native.Mathlib.Omega.{arith}
use borrow.Author.Tests.{le-leb, lt-leb}
use lib.Dec.{T}
use lib.IntN.{pos, neg_ℤ}
use lib.Ieee.{Float, binary32, mul, is_nan, nan_bits, of_bits, to_bits}
use lib.Ieee.Bits.{nan_bits_is}
use lib.Ieee.Fits.{mul-fits}
use mir.Syntax.{w16}
use mir.ValLaws.{to_z_pos, to_z-of_z}
use Rattle.signs.specs.Signs.{minus_is, minus_fits}
use Rattle.spec.specs.Samples.{nearest_to, units_by, signed_by}
use Rattle.readings.specs.Product.{sixty_four, held_whole, by_bits, product_soft, product_reads}
use Rattle.readings.specs.Held.{same_bits, is_magnitude, under_sign}
use Rattle.readings.proofs.steps.in_steps.Goals as goal

-- ---- the sign is apart from the magnitude
apart : (b : ℕ) → held_whole (b % 2 ^ 31) ≡ held_whole b
apart b =
    let x : b % 2 ^ 31 % 2 ^ 31 ≡ b % 2 ^ 31 = omega arith in
    let t : b % 2 ^ 31 % 2 ^ 23 ≡ b % 2 ^ 23 = omega arith in
    ap₂ (λ (x t : ℕ). min 2047 (nearest_to (units_by (x / 2 ^ 23) t) (2 ^ 149))) x t

plus : (b w : ℕ) → w ≡ held_whole (b % 2 ^ 31) → b < 2 ^ 31 → pos w ≡ by_bits b
plus b w e h = ap pos (e ∙ apart b) ∙ sym (ap (λ (s : Bool). signed_by s (held_whole b)) (lt-leb (2 ^ 31) b h))

minus : (b w : ℕ) → w ≡ held_whole (b % 2 ^ 31) → 2 ^ 31 ≤ b → neg_ℤ (pos w) ≡ by_bits b
minus b w e h = ap (λ (k : ℕ). neg_ℤ (pos k)) (e ∙ apart b) ∙ sym (ap (λ (s : Bool). signed_by s (held_whole b)) (le-leb (2 ^ 31) b h))

-- ---- the product, and the bits under its sign
module _ (x : Float) (sound : T (not (is_nan x))) where
  abbrev product : Float
  product = mul binary32 x sixty_four

  abbrev low : ℕ
  low = to_bits binary32 product % 2 ^ 31

  no_nan : T (not (nan_bits binary32 low))
  no_nan = under_sign product (mul-fits binary32 x sixty_four) (product_reads x sound)

  magnitude : T (not (is_nan (of_bits binary32 low)))
  magnitude = subst (λ (t : Bool). T (not t)) (nan_bits_is binary32 low) no_nan

  -- the whole number by these bits
  found : (w : ℕ) → w ≡ held_whole (to_bits binary32 (of_bits binary32 low)) → w ≡ held_whole low
  found w e = e ∙ ap held_whole (same_bits low (omega arith) magnitude)

pub float_to_bits-bits : goal.float_to_bits-bits
float_to_bits-bits c = product_reads c.args.x c.requires

pub float_from_bits-bits : goal.float_from_bits-bits
float_from_bits-bits c = no_nan c.args.x c.requires

pub whole-w-requires : goal.whole-w-requires
whole-w-requires c = is_magnitude (low c.args.x c.requires) (omega arith) (magnitude c.args.x c.requires)

pub returns-then-bits-lt2147483648 : goal.returns-then-bits-lt2147483648
returns-then-bits-lt2147483648 c =
    let w = c.whole-w.result in
    to_z_pos w16 w (omega arith)
    ∙ plus _ w (found c.args.x c.requires w c.whole-w.ensures.0) c.if-bits-lt2147483648.true
    ∙ product_soft c.args.x (subst T (sym c.well_formed.0.1) tt) c.requires

pub returns : goal.returns
returns c =
    let w = c.whole-w.result in
    let short : w < 32768 = omega (arith, c.whole-w.ensures.1) in
    to_z-of_z w16 _ (minus_fits w16 w short) ∙ minus_is w16 w short
    ∙ minus _ w (found c.args.x c.requires w c.whole-w.ensures.0) c.if-bits-lt2147483648.false
    ∙ product_soft c.args.x (subst T (sym c.well_formed.0.1) tt) c.requires
