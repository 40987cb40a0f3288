-- The product of a reading and 64 is exact, or an infinity where it is beyond every float: so the soft value of a reading is the
-- nearest whole number to the product, by the product's bits. Assumes nothing.
use Rattle.std.specs.Prelude.{◌≡◌, refl, Bool, true, false, cond, not, ℕ, zero, suc, ◌+◌, ◌-◌, ◌*◌, ◌/◌, ◌^◌, ◌≤◌, ◌<◌, min, T, ltb, ℤ, pos, Float}
use Rattle.std.proofs.Common.{sym, ap, ap₂, subst, ◌∙◌, le_trans, mul-one, mul_comm, mul_assoc, mul_right_comm, mul-pos, mul-div_cancel, le_of_mul-le-mul_right, arith, ltb-true, ltb-false, le-ltb, ne_eqb, lit≤, pow-add, pow_pos, shl_lt}
use Rattle.std.proofs.Math.Nat.{eq_of_mul-eq-mul_right}
use Rattle.std.specs.Float.{nan, inf, fin, binary32}
use Rattle.std.specs.Float.Ieee.{up, down, unlike, size, odd, units, round, mul, fits, is_nan, of_bits, to_bits}
use Rattle.std.specs.Float.Ieee.Digits.{size-le, back}
use Rattle.std.specs.Float.Ieee.Fits.{core, round_is, mul-fits, down_pos}
use Rattle.std.specs.Float.Ieee.Bits.{of_bits-to_bits}
use Rattle.std.specs.Float.Ieee.Exact.{HasValue, round_exact}
use Rattle.std.specs.Float.Ieee.Nearest.{closest}
use Rattle.std.specs.Float.Ieee.Scale.{finite, round_same}
use Rattle.spec.specs.Samples.{negative, exponent_of, digits_of, units_by, units_of, nearest_to, held_magnitude, signed_by, soft_of}
use Rattle.spec.specs.SamplesAreFloats.{number_value, number_below}
use Rattle.readings.specs.Rounding.{nearest_is, nearest_same, nearest_reaches, whole_nearest}

-- 64.0
abbrev pub sixty_four : Float
sixty_four = of_bits binary32 0x42800000

sixty_four_is : sixty_four ≡ fin false 1 (pos 6)
unfolding of_bits
sixty_four_is = refl

-- ---- what a value tells
pub value_finite : (x : Float) (s : Bool) (a c : ℕ) → HasValue x s a c → T (finite x)
value_finite nan s a c v = absurd v
value_finite (inf t) s a c v = absurd v
value_finite (fin t m e) s a c v = tt

-- two fractions that a float equals
pub two_fractions : (x : Float) (s t : Bool) (a c u d : ℕ) → HasValue x s a c → HasValue x t u d → (s ≡ t) × (a * d ≡ u * c)
two_fractions nan s t a c u d v w = absurd v
two_fractions (inf z) s t a c u d v w = absurd v
two_fractions (fin z m e) s t a c u d v w = (
  sym v.0 ∙ w.0,
  eq_of_mul-eq-mul_right (down e) (down_pos e) (a * d) (u * c)
      (mul_right_comm a d (down e) ∙ ap (λ (n : ℕ). n * d) (sym v.1) ∙ mul_right_comm (m * up e) c d
      ∙ ap (λ (n : ℕ). n * c) w.1 ∙ mul_right_comm u (down e) c),
)

-- ---- the product as a fraction that is rounded
like : (s : Bool) → unlike s false ≡ s
like true = refl
like false = refl

product_is : (x : Float) (s : Bool) (u : ℕ) → HasValue x s u (2 ^ 149) → mul binary32 x (fin false 1 (pos 6)) ≡ round binary32 s (u * 64) (2 ^ 149)
unfolding mul
product_is nan s u v = absurd v
product_is (inf t) s u v = absurd v
product_is (fin t m e) s u v =
    ap (λ (z : Bool). round binary32 z (m * up e * 64) (down e * 1)) (like t ∙ v.0)
    ∙ round_same binary32 s (m * up e * 64) (down e * 1) (u * 64) (2 ^ 149) (mul-pos (down_pos e) (omega arith)) (pow_pos 149)
    (mul_right_comm (m * up e) 64 (2 ^ 149) ∙ ap (λ (n : ℕ). n * 64) v.1 ∙ mul_right_comm u (down e) 64 ∙ ap (λ (n : ℕ). u * 64 * n) (sym (mul-one (down e))))

-- ---- beyond every float: the fraction q · 2^j is written as r · 2^k units with the digits that are kept, and that is an infinity
spare : (z p l : ℕ) → z ≤ p + l → z - p ≤ l
spare z p l h = omega arith

units_over : (s : Bool) (q k : ℕ) → 2 ^ 277 ≤ q * 2 ^ k → units binary32 s q k ≡ inf s
unfolding units
units_over s q k h = rw (le-ltb (q * 2 ^ k) (2 ^ 277) h)

core_whole : (s : Bool) (d k q : ℕ) → 0 < d * 2 ^ k → core binary32 s (q * (d * 2 ^ k)) d k ≡ units binary32 s q k
core_whole s d k q h = ap (λ (n : ℕ). units binary32 s n k) (sym (nearest_is (q * (d * 2 ^ k)) (d * 2 ^ k)) ∙ whole_nearest q (d * 2 ^ k) h)

round_over : (s : Bool) (n q j : ℕ) → q < 2 ^ 24 → n ≡ q * 2 ^ j → 2 ^ 277 ≤ n → round binary32 s n (2 ^ 149) ≡ inf s
round_over s n q j small e over =
    let d : ℕ = 2 ^ 149 in
    let D : 0 < d = pow_pos 149 in
    let k : ℕ = size (n * d / d) - 24 in
    let w : n * d / d ≡ n = mul-div_cancel n D in
    let k_le : k ≤ j = spare (size (n * d / d)) 24 j (size-le (n * d / d) (24 + j) (subst (λ (x : ℕ). x < 2 ^ (24 + j)) (sym (w ∙ e)) (shl_lt 24 j small))) in
    let r : ℕ = q * 2 ^ (j - k) in
    let e3 : r * 2 ^ k ≡ n = mul_assoc q (2 ^ (j - k)) (2 ^ k) ∙ ap (λ (x : ℕ). q * x) (sym (pow-add 2 (j - k) k) ∙ ap (λ (x : ℕ). 2 ^ x) (back j k k_le)) ∙ sym e in
    let e2 : n * d ≡ r * (d * 2 ^ k) = ap (λ (x : ℕ). x * d) (sym e3) ∙ mul_assoc r (2 ^ k) d ∙ ap (λ (x : ℕ). r * x) (mul_comm (2 ^ k) d) in
    round_is binary32 s n d ∙ ap (λ (x : ℕ). core binary32 s x d k) e2 ∙ core_whole s d k r (mul-pos D (pow_pos k))
    ∙ units_over s r k (subst (λ (x : ℕ). 2 ^ 277 ≤ x) (sym e3) over)

-- ---- 64 times a number of units is q · 2^j with a q of 24 digits
record Digits (n : ℕ) : Type 0 where
  q : ℕ
  j : ℕ
  short : q < 2 ^ 24
  is : n ≡ q * 2 ^ j

digits : (x t : ℕ) → t < 2 ^ 23 → Digits (units_by x t * 64)
digits zero t h = record { q = t; j = 6; short = omega arith; is = refl }
digits (suc y) t h = record { q = 2 ^ 23 + t; j = y + 6; short = omega arith; is = mul_assoc (2 ^ 23 + t) (2 ^ y) 64 ∙ ap (λ (n : ℕ). (2 ^ 23 + t) * n) (sym (pow-add 2 y 6)) }

-- ---- the soft value by a float's bits: the sign and the nearest whole number
abbrev pub held_whole : ℕ → ℕ
held_whole b = min 2047 (nearest_to (units_of b) (2 ^ 149))

abbrev pub by_bits : ℕ → ℤ
by_bits b = signed_by (negative b) (held_whole b)

pub soft_number : (b : ℕ) → exponent_of b < 255 → soft_of b ≡ signed_by (negative b) (min 2047 (nearest_to (units_of b) (2 ^ 143)))
unfolding soft_of held_magnitude
soft_number b h = rw (ne_eqb (exponent_of b) 255 (λ e. omega arith))

infinite : (s : Bool) → by_bits (to_bits binary32 (inf s)) ≡ signed_by s 2047
unfolding to_bits nearest_to
infinite true = refl
infinite false = refl

pub soft_infinite : (s : Bool) → soft_of (to_bits binary32 (inf s)) ≡ signed_by s 2047
unfolding to_bits soft_of held_magnitude
soft_infinite true = refl
soft_infinite false = refl

held_over : (u : ℕ) → 2 ^ 277 ≤ u * 64 → min 2047 (nearest_to u (2 ^ 143)) ≡ 2047
held_over u h =
    let far : 2047 * 2 ^ 143 * 64 ≤ 2 ^ 277 = lit≤ tt in
    let g : 2047 * 2 ^ 143 ≤ u = le_of_mul-le-mul_right {k = 64} (le_trans far h) (omega arith) in
    let k : 2047 ≤ nearest_to u (2 ^ 143) = nearest_reaches 2047 u (2 ^ 143) (pow_pos 143) g in
    held (nearest_to u (2 ^ 143)) k
  where
    held : (n : ℕ) → 2047 ≤ n → min 2047 n ≡ 2047
    held n h = omega arith

-- a number: y is its product, whose bits are c
module _ (b : ℕ) (x : Float) (ob : of_bits binary32 b ≡ x) (f : T (finite x)) where
  below : exponent_of b < 255
  below = number_below b (subst (λ (z : Float). T (finite z)) (sym ob) f)

  has : HasValue x (negative b) (units_of b) (2 ^ 149)
  has = subst (λ (z : Float). HasValue z (negative b) (units_of b) (2 ^ 149)) ob (number_value b below)

  abbrev y : Float
  y = mul binary32 x (fin false 1 (pos 6))

  abbrev w : Digits (units_of b * 64)
  w = digits (exponent_of b) (digits_of b) (omega arith)

  y_bits : of_bits binary32 (to_bits binary32 y) ≡ y
  y_bits = of_bits-to_bits binary32 y (mul-fits binary32 x (fin false 1 (pos 6)))

  inside : units_of b * 64 < 2 ^ 277 → by_bits (to_bits binary32 y) ≡ soft_of b
  inside h =
      let c : ℕ = to_bits binary32 y in
      let n : ℕ = units_of b * 64 in
      let v : HasValue y (negative b) n (2 ^ 149) =
      subst (λ (z : Float). HasValue z (negative b) n (2 ^ 149)) (sym (product_is x (negative b) (units_of b) has))
      (round_exact binary32 (negative b) n (2 ^ 149) w.q w.j (pow_pos 149) w.short (subst (λ (z : ℕ). z < 2 ^ 277) w.is h) (ap (λ (z : ℕ). z * 2 ^ 149) w.is)) in
      let l : exponent_of c < 255 = number_below c (subst (λ (z : Float). T (finite z)) (sym y_bits) (value_finite y (negative b) n (2 ^ 149) v)) in
      let v' : HasValue y (negative c) (units_of c) (2 ^ 149) = subst (λ (z : Float). HasValue z (negative c) (units_of c) (2 ^ 149)) y_bits (number_value c l) in
      let e = two_fractions y (negative b) (negative c) n (2 ^ 149) (units_of c) (2 ^ 149) v v' in
      ap₂ (λ (s : Bool) (k : ℕ). signed_by s (min 2047 k)) (sym e.0)
      (sym (nearest_same n (2 ^ 149) (units_of c) (2 ^ 149) (pow_pos 149) (pow_pos 149) e.1)
      ∙ nearest_same n (2 ^ 149) (units_of b) (2 ^ 143) (pow_pos 149) (pow_pos 143) (mul_assoc (units_of b) 64 (2 ^ 143)))
      ∙ sym (soft_number b below)

  outside : 2 ^ 277 ≤ units_of b * 64 → by_bits (to_bits binary32 y) ≡ soft_of b
  outside h =
      ap (λ (z : Float). by_bits (to_bits binary32 z)) (product_is x (negative b) (units_of b) has ∙ round_over (negative b) (units_of b * 64) w.q w.j w.short w.is h)
      ∙ infinite (negative b)
      ∙ ap (signed_by (negative b)) (sym (held_over (units_of b) h))
      ∙ sym (soft_number b below)

  of_number : by_bits (to_bits binary32 y) ≡ soft_of b
  of_number = go (ltb (units_of b * 64) (2 ^ 277)) refl
    where
      go : (t : Bool) → ltb (units_of b * 64) (2 ^ 277) ≡ t → by_bits (to_bits binary32 y) ≡ soft_of b
      go true e = inside (ltb-true (units_of b * 64) (2 ^ 277) e)
      go false e = outside (ltb-false (units_of b * 64) (2 ^ 277) e)

of_infinity : (s : Bool) → by_bits (to_bits binary32 (mul binary32 (inf s) (fin false 1 (pos 6)))) ≡ soft_of (to_bits binary32 (inf s))
unfolding mul
of_infinity s = ap (λ (z : Bool). by_bits (to_bits binary32 (inf z))) (like s) ∙ infinite s ∙ sym (soft_infinite s)

by_value : (x : Float) → T (fits binary32 x) → T (not (is_nan x)) → by_bits (to_bits binary32 (mul binary32 x (fin false 1 (pos 6)))) ≡ soft_of (to_bits binary32 x)
unfolding is_nan
by_value nan f n = absurd n
by_value (inf s) f n = of_infinity s
by_value (fin s m e) f n = of_number (to_bits binary32 (fin s m e)) (fin s m e) (of_bits-to_bits binary32 (fin s m e) f) tt

pub product_soft : (x : Float) → T (fits binary32 x) → T (not (is_nan x)) → by_bits (to_bits binary32 (mul binary32 x sixty_four)) ≡ soft_of (to_bits binary32 x)
product_soft x f n = ap (λ (z : Float). by_bits (to_bits binary32 (mul binary32 x z))) sixty_four_is ∙ by_value x f n

-- and the product is no NaN
odd_reads : (d : ℕ) (s : Bool) (q k l : ℕ) → T (not (is_nan (odd d s q k l)))
unfolding is_nan odd
odd_reads d s zero k l = tt
odd_reads d s (suc q) k l = tt

units_reads : (s : Bool) (q k : ℕ) → T (not (is_nan (units binary32 s q k)))
unfolding is_nan units
units_reads s q k = go (ltb (q * 2 ^ k) (2 ^ 277))
  where
    go : (t : Bool) → T (not (is_nan (cond t (odd 25 s q k 149) (inf s))))
    go true = odd_reads 25 s q k 149
    go false = tt

round_reads : (s : Bool) (a c : ℕ) → T (not (is_nan (round binary32 s a c)))
round_reads s a c =
    let k : ℕ = size (a * 2 ^ 149 / c) - 24 in
    subst (λ (z : Float). T (not (is_nan z))) (sym (round_is binary32 s a c)) (units_reads s (closest (a * 2 ^ 149) (c * 2 ^ k)) k)

no_nan : (x : Float) → T (not (is_nan x)) → T (not (is_nan (mul binary32 x (fin false 1 (pos 6)))))
unfolding is_nan mul
no_nan nan n = absurd n
no_nan (inf s) n = tt
no_nan (fin s m e) n = round_reads (unlike s false) (m * up e * 64) (down e * 1)

pub product_reads : (x : Float) → T (not (is_nan x)) → T (not (is_nan (mul binary32 x sixty_four)))
product_reads x n = subst (λ (z : Float). T (not (is_nan (mul binary32 x z)))) (sym sixty_four_is) (no_nan x n)
