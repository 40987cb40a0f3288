-- A magnitude is held between 1/2 and 2,047 by comparisons of floats: what is more than 2,047 is rounded and held as that is, and what is
-- less than 1/2 as that is, to 0.
use Rattle.std.specs.Prelude.{◌≡◌, Bool, true, not, ℕ, ◌*◌, ◌%◌, ◌^◌, ◌≤◌, ◌<◌, min, ltb, pos, negsuc, Float}
use Rattle.std.proofs.Math.Path.{refl, ap, subst}
use Rattle.std.proofs.Common.{sym, ◌∙◌, true≢false, mul-one, one-mul, mul_comm, mul_assoc, mul_right_comm, mul-le-mul_right, mul-lt-mul_of_pos_right, le_of_mul-le-mul_right, lt_of_mul-lt-mul_right, le_of_lt, arith, ltb-true, ltb-false, lit≤, pow_pos}
use Rattle.std.proofs.Math.Bool.{false}
use Rattle.std.proofs.lemmas.Bool.{lt-leb}
use Rattle.std.proofs.Math.Dec.{T}
use Rattle.std.specs.Float.Ieee.{nan, binary32, up, down, lt, fits, is_nan, nan_bits, of_bits, to_bits}
use Rattle.std.specs.Float.{inf, fin}
use Rattle.std.specs.Float.Ieee.Bits.{of_bits-to_bits, to_bits-of_bits, nan_bits_is, nan_bits_above}
use Rattle.std.specs.Float.Ieee.Scale.{finite}
use Rattle.std.specs.Float.Ieee.Fits.{down_pos}
use Rattle.std.specs.Float.Ieee.Exact.{HasValue}
use Rattle.spec.specs.Samples.{negative, exponent_of, units_of, nearest_to}
use Rattle.spec.specs.SamplesAreFloats.{number_value, number_below}
use Rattle.readings.specs.Rounding.{nearest_reaches, half_at_most}
use Rattle.readings.specs.Product.{held_whole}

-- how many units of 2^-149 a float has, by its bits
abbrev pub units : Float → ℕ
units x = units_of (to_bits binary32 x)

-- a magnitude: an infinity, or a number whose sign is 0
abbrev pub Magnitude : Float → Type 0
Magnitude nan = ⊥
Magnitude (inf s) = s ≡ false
Magnitude (fin s m e) = HasValue (fin s m e) false (units (fin s m e)) (2 ^ 149)

-- one of at most 2,047, and at least 1/2
abbrev pub AtMost : Float → Type 0
AtMost x = HasValue x false (units x) (2 ^ 149) × (units x ≤ 2047 * 2 ^ 149)

abbrev pub Within : Float → Type 0
Within x = HasValue x false (units x) (2 ^ 149) × (2 ^ 148 ≤ units x) × (units x ≤ 2047 * 2 ^ 149)

-- 2047.0 and 0.5
abbrev pub full : Float
full = of_bits binary32 0x44ffe000

abbrev pub half : Float
half = of_bits binary32 0x3f000000

full_is : full ≡ fin false 2047 (pos 0)
unfolding of_bits
full_is = refl

half_is : half ≡ fin false 1 (negsuc 0)
unfolding of_bits
half_is = refl

-- ---- comparisons: of q / d, which is u units, with 2,047 and with 1/2
module _ (q d u : ℕ) (D : 0 < d) (v : q * 2 ^ 149 ≡ u * d) where
  full_below : 2047 * d < q → 2047 * 2 ^ 149 < u
  full_below h =
      lt_of_mul-lt-mul_right d (subst (λ (z : ℕ). 2047 * 2 ^ 149 * d < z) v
      (subst (λ (z : ℕ). z < q * 2 ^ 149) (mul_right_comm 2047 d (2 ^ 149)) (mul-lt-mul_of_pos_right h (pow_pos 149))))

  full_above : q ≤ 2047 * d → u ≤ 2047 * 2 ^ 149
  full_above h =
      le_of_mul-le-mul_right (subst (λ (z : ℕ). z ≤ 2047 * 2 ^ 149 * d) v
      (subst (λ (z : ℕ). q * 2 ^ 149 ≤ z) (mul_right_comm 2047 d (2 ^ 149)) (mul-le-mul_right (2 ^ 149) h))) D

  doubled : q * 2 * 2 ^ 148 ≡ u * d
  doubled = mul_assoc q 2 (2 ^ 148) ∙ v

  half_above : q * 2 < d → u < 2 ^ 148
  half_above h =
      lt_of_mul-lt-mul_right d (subst (λ (z : ℕ). z < 2 ^ 148 * d) doubled
      (subst (λ (z : ℕ). q * 2 * 2 ^ 148 < z) (mul_comm d (2 ^ 148)) (mul-lt-mul_of_pos_right h (pow_pos 148))))

  half_below : d ≤ q * 2 → 2 ^ 148 ≤ u
  half_below h =
      le_of_mul-le-mul_right (subst (λ (z : ℕ). 2 ^ 148 * d ≤ z) doubled
      (subst (λ (z : ℕ). z ≤ q * 2 * 2 ^ 148) (mul_comm d (2 ^ 148)) (mul-le-mul_right (2 ^ 148) h))) D

-- a number that is more than 2,047 or not, less than 1/2 or not
over : (x : Float) (u : ℕ) → HasValue x false u (2 ^ 149) → lt (fin false 2047 (pos 0)) x ≡ true → 2047 * 2 ^ 149 < u
unfolding lt
over nan u v e = absurd v
over (inf s) u v e = absurd v
over (fin true m k) u v e = absurd (true≢false v.0)
over (fin false m k) u v e =
    full_below (m * up k) (down k) u (down_pos k) v.1 (subst (λ (z : ℕ). 2047 * down k < z) (mul-one (m * up k)) (ltb-true (2047 * down k) (m * up k * 1) e))

not_over : (x : Float) (u : ℕ) → HasValue x false u (2 ^ 149) → lt (fin false 2047 (pos 0)) x ≡ false → u ≤ 2047 * 2 ^ 149
unfolding lt
not_over nan u v e = absurd v
not_over (inf s) u v e = absurd v
not_over (fin true m k) u v e = absurd (true≢false v.0)
not_over (fin false m k) u v e =
    full_above (m * up k) (down k) u (down_pos k) v.1 (subst (λ (z : ℕ). z ≤ 2047 * down k) (mul-one (m * up k)) (ltb-false (2047 * down k) (m * up k * 1) e))

under : (x : Float) (u : ℕ) → HasValue x false u (2 ^ 149) → lt x (fin false 1 (negsuc 0)) ≡ true → u < 2 ^ 148
unfolding lt
under nan u v e = absurd v
under (inf s) u v e = absurd v
under (fin true m k) u v e = absurd (true≢false v.0)
under (fin false m k) u v e =
    half_above (m * up k) (down k) u (down_pos k) v.1 (subst (λ (z : ℕ). m * up k * 2 < z) (one-mul (down k)) (ltb-true (m * up k * 2) (1 * down k) e))

not_under : (x : Float) (u : ℕ) → HasValue x false u (2 ^ 149) → lt x (fin false 1 (negsuc 0)) ≡ false → 2 ^ 148 ≤ u
unfolding lt
not_under nan u v e = absurd v
not_under (inf s) u v e = absurd v
not_under (fin true m k) u v e = absurd (true≢false v.0)
not_under (fin false m k) u v e =
    half_below (m * up k) (down k) u (down_pos k) v.1 (subst (λ (z : ℕ). z ≤ m * up k * 2) (one-mul (down k)) (ltb-false (m * up k * 2) (1 * down k) e))

-- ---- 2,047 and 1/2 themselves
full_whole : held_whole (to_bits binary32 full) ≡ 2047
unfolding to_bits of_bits nearest_to
full_whole = refl

half_whole : held_whole (to_bits binary32 half) ≡ 0
unfolding to_bits of_bits nearest_to
half_whole = refl

endless_whole : held_whole (to_bits binary32 (inf false)) ≡ 2047
unfolding to_bits nearest_to
endless_whole = refl

pub full_at_most : AtMost full
unfolding to_bits of_bits
full_at_most = ((refl, refl), lit≤ tt)

pub half_within : Within half
unfolding to_bits of_bits
half_within = ((refl, refl), lit≤ tt, lit≤ tt)

-- ---- held at 2,047
held : (n : ℕ) → 2047 ≤ n → 2047 ≡ min 2047 n
held n k = omega arith

pub held_high : (x : Float) → Magnitude x → lt full x ≡ true → held_whole (to_bits binary32 full) ≡ held_whole (to_bits binary32 x)
held_high nan v e = absurd v
held_high (inf true) v e = absurd (true≢false v)
held_high (inf false) v e = full_whole ∙ sym endless_whole
held_high (fin s m k) v e =
    let x : Float = fin s m k in
    let h = over x (units x) v (sym (ap (λ (z : Float). lt z x) full_is) ∙ e) in
    full_whole ∙ held (nearest_to (units x) (2 ^ 149)) (nearest_reaches 2047 (units x) (2 ^ 149) (pow_pos 149) (le_of_lt h))

pub not_high : (x : Float) → Magnitude x → lt full x ≡ false → AtMost x
unfolding lt
not_high nan v e = absurd v
not_high (inf true) v e = absurd (true≢false v)
not_high (inf false) v e = absurd (true≢false (sym (ap (λ (z : Float). lt z (inf false)) full_is) ∙ e))
not_high (fin s m k) v e =
    let x : Float = fin s m k in
    (v, not_over x (units x) v (sym (ap (λ (z : Float). lt z x) full_is) ∙ e))

-- ---- and at 1/2
twice : (a b : ℕ) → a < b → 2 * a ≤ 2 * b
twice a b h = omega arith

module _ (x : Float) (v : AtMost x) where
  pub held_low : lt x half ≡ true → held_whole (to_bits binary32 half) ≡ held_whole (to_bits binary32 x)
  held_low e =
      let h : units x < 2 ^ 148 = under x (units x) v.0 (sym (ap (lt x) half_is) ∙ e) in
      half_whole ∙ ap (min 2047) (half_at_most (units x) (2 ^ 149) (pow_pos 149) (twice (units x) (2 ^ 148) h))

  pub not_low : lt x half ≡ false → Within x
  not_low e = (v.0, not_under x (units x) v.0 (sym (ap (lt x) half_is) ∙ e), v.1)

-- ---- the float of the bits under the sign is a magnitude, and has these bits
module _ (b : ℕ) (h : b < 2 ^ 31) (r : T (not (is_nan (of_bits binary32 b)))) where
  pub same_bits : to_bits binary32 (of_bits binary32 b) ≡ b
  same_bits = to_bits-of_bits binary32 b (omega arith) r

  pub is_magnitude : Magnitude (of_bits binary32 b)
  unfolding is_nan to_bits
  is_magnitude = go (of_bits binary32 b) refl
    where
      go : (x : Float) → of_bits binary32 b ≡ x → Magnitude x
      go nan e = subst (λ (z : Float). T (not (is_nan z))) e r
      go (inf true) e = let i : to_bits binary32 (inf true) ≡ b = ap (to_bits binary32) (sym e) ∙ same_bits in absurd (omega arith)
      go (inf false) e = refl
      go (fin s m k) e =
          let below : exponent_of b < 255 = number_below b (subst (λ (z : Float). T (finite z)) (sym e) tt) in
          let v = subst (λ (z : Float). HasValue z (negative b) (units_of b) (2 ^ 149)) e (number_value b below) in
          let u : units_of b ≡ units (fin s m k) = ap units_of (sym same_bits ∙ ap (to_bits binary32) e) in
          subst (λ (n : ℕ). HasValue (fin s m k) false n (2 ^ 149)) u
          (subst (λ (z : Bool). HasValue (fin s m k) z (units_of b) (2 ^ 149)) (lt-leb (2 ^ 31) b h) v)

-- what is no NaN is none without its sign
pub under_sign : (x : Float) → T (fits binary32 x) → T (not (is_nan x)) → T (not (nan_bits binary32 (to_bits binary32 x % 2 ^ 31)))
under_sign x f r =
    let n : ℕ = to_bits binary32 x in
    let m : n % 2 ^ 31 % 2 ^ 31 ≡ n % 2 ^ 31 = omega arith in
    let e : nan_bits binary32 (n % 2 ^ 31) ≡ is_nan x =
    nan_bits_above binary32 (n % 2 ^ 31) ∙ ap (ltb (255 * 2 ^ 23)) m ∙ sym (nan_bits_above binary32 n) ∙ nan_bits_is binary32 n ∙ ap is_nan (of_bits-to_bits binary32 x f) in
    subst (λ (t : Bool). T (not t)) (sym e) r
