-- A magnitude from 1/2 to 2,047 is a whole number of 2^-24. A float of 64 bits holds its sum with 2^28 exactly, and of the bits of that
-- sum the lowest 52 are this number.
use Rattle.std.specs.Prelude.{◌≡◌, refl, true, false, not, ℕ, zero, suc, ◌+◌, ◌-◌, ◌*◌, ◌/◌, ◌%◌, ◌^◌, ◌≤◌, ◌<◌, T, ℤ, pos, Float}
use Rattle.std.proofs.Common.{sym, ap, ap₂, subst, ◌∙◌, true≢false, zero-add, mul-one, mul_assoc, mul_right_comm, add-mul, mul-pos, mul-div_cancel, le_antisymm, lt_of_not-le, not-le_of_lt, lt_of_lt_of_le, mul-le-mul, mul-lt-mul_of_pos_right, le_of_mul-le-mul_right, le_of_eq, arith, lit≤, pow-add, pow_pos, pow_mono, shl_lt}
use Rattle.std.proofs.Math.Nat.{eq_of_mul-eq-mul_right}
use Rattle.std.proofs.lemmas.Nat.{shl-shr}
use Rattle.std.specs.Float.Ieee.{nan, low, up, down, size, round, sum, add, is_nan, of_bits, to_bits}
use Rattle.std.specs.Float.{inf, fin, binary32, binary64}
use Rattle.std.specs.Float.Ieee.Digits.{size-lt, size-le}
use Rattle.std.specs.Float.Ieee.Fits.{down_pos}
use Rattle.std.specs.Float.Ieee.Exact.{HasValue, round_exact}
use Rattle.std.specs.Float.Ieee.Scale.{round_same}
use Rattle.spec.specs.Samples.{exponent_of, digits_of, units_by}
use Rattle.readings.specs.Held.{units, Within}

-- 268435456.0, which is 2^28
abbrev pub shift : Float
shift = of_bits binary64 0x41b0000000000000

shift_is : shift ≡ fin false 1 (pos 28)
unfolding of_bits
shift_is = refl

-- ---- the number, by exponent x and digits t: how many of 2^-24
abbrev pub fine_by : ℕ → ℕ → ℕ
fine_by x t = (2 ^ 23 + t) * 2 ^ (x - 126)

fine_units : (x t : ℕ) → 126 ≤ x → fine_by x t * 2 ^ 125 ≡ units_by x t
fine_units zero t h = absurd (let z : ⊥ = omega arith in z)
fine_units (suc y) t h =
    let e : suc y - 126 + 125 ≡ y = omega arith in
    mul_assoc (2 ^ 23 + t) (2 ^ (suc y - 126)) (2 ^ 125)
    ∙ ap (λ (n : ℕ). (2 ^ 23 + t) * n) (sym (pow-add 2 (suc y - 126) 125) ∙ ap (λ (n : ℕ). 2 ^ n) e)

-- ---- the bits of a float of the format f that is q · 2^k of its smallest values, q having all the digits that the format keeps
size_is : (n j : ℕ) → 2 ^ j ≤ n → n < 2 ^ suc j → size n ≡ suc j
size_is n j low high = le_antisymm (size-le n (suc j) high) (lt_of_not-le (λ (g : size n ≤ j). not-le_of_lt (lt_of_lt_of_le (size-lt n) (pow_mono g)) low))

abbrev packed : ℕ → ℕ
packed n = (size n - 53) * 2 ^ 52 + n / 2 ^ (size n - 53)

to_bits_lem : (m : ℕ) (e : ℤ) → to_bits binary64 (fin false m e) ≡ packed (m * up e * 2 ^ 1074 / down e)
unfolding to_bits
to_bits_lem m e =
    let n : ℕ = m * up e * 2 ^ 1074 / down e in
    ap (λ (z : ℕ). z + n / 2 ^ (size n - 53)) (zero-add ((size n - 53) * 2 ^ 52))

packed_is : (q : ℕ) → 2 ^ 52 ≤ q → q < 2 ^ 53 → packed (q * 2 ^ 1050) ≡ 1050 * 2 ^ 52 + q
packed_is q l h =
    let at_least : 2 ^ 1102 ≤ q * 2 ^ 1050 = mul-le-mul {n₁ = 2 ^ 52} {m₁ = 2 ^ 1050} l (le_of_eq refl) in
    let k : size (q * 2 ^ 1050) ≡ 1103 = size_is (q * 2 ^ 1050) 1102 at_least (shl_lt 53 1050 h) in
    ap (λ (z : ℕ). (z - 53) * 2 ^ 52 + q * 2 ^ 1050 / 2 ^ (z - 53)) k ∙ ap (λ (z : ℕ). 1050 * 2 ^ 52 + z) (shl-shr q 1050)

-- a value q / 2^24 from 2^28 up to 2^29
pub bits_of : (x : Float) (q : ℕ) → HasValue x false q (2 ^ 24) → 2 ^ 52 ≤ q → q < 2 ^ 53 → to_bits binary64 x ≡ 1050 * 2 ^ 52 + q
bits_of nan q v l h = absurd v
bits_of (inf s) q v l h = absurd v
bits_of (fin true m e) q v l h = absurd (true≢false v.0)
bits_of (fin false m e) q v l h =
    to_bits_lem m e
    ∙ ap packed
    (ap (λ (z : ℕ). z / down e)
    (sym (mul_assoc (m * up e) (2 ^ 24) (2 ^ 1050)) ∙ ap (λ (z : ℕ). z * 2 ^ 1050) v.1 ∙ mul_right_comm q (down e) (2 ^ 1050))
    ∙ mul-div_cancel (q * 2 ^ 1050) (down_pos e))
    ∙ packed_is q l h

-- ---- the sum
summed : (x : Float) (k : ℕ) → HasValue x false k (2 ^ 24) → add binary64 x (fin false 1 (pos 28)) ≡ round binary64 false (k + 2 ^ 52) (2 ^ 24)
unfolding add sum
summed nan k v = absurd v
summed (inf s) k v = absurd v
summed (fin true m e) k v = absurd (true≢false v.0)
summed (fin false m e) k v =
    let d : ℕ = down e in
    round_same binary64 false (m * up e * 1 + 2 ^ 28 * d) (d * 1) (k + 2 ^ 52) (2 ^ 24) (mul-pos (down_pos e) (omega arith)) (pow_pos 24)
    (add-mul (m * up e * 1) (2 ^ 28 * d) (2 ^ 24)
    ∙ ap₂ ◌+◌ (ap (λ (z : ℕ). z * 2 ^ 24) (mul-one (m * up e)) ∙ v.1) (mul_right_comm (2 ^ 28) d (2 ^ 24))
    ∙ sym (add-mul k (2 ^ 52) d) ∙ ap (λ (z : ℕ). (k + 2 ^ 52) * z) (sym (mul-one d)))

sum_value : (x : Float) (k : ℕ) → HasValue x false k (2 ^ 24) → k < 2 ^ 52 → HasValue (add binary64 x shift) false (k + 2 ^ 52) (2 ^ 24)
sum_value x k v h =
    subst (λ (z : Float). HasValue z false (k + 2 ^ 52) (2 ^ 24)) (sym (ap (add binary64 x) shift_is ∙ summed x k v))
    (round_exact binary64 false (k + 2 ^ 52) (2 ^ 24) (k + 2 ^ 52) 1050 (pow_pos 24) (omega arith)
    (lt_of_lt_of_le (shl_lt 53 1050 (omega arith)) (lit≤ tt)) (sym (mul_assoc (k + 2 ^ 52) (2 ^ 1050) (2 ^ 24))))

-- ---- for such a magnitude
-- from 1/2 on the exponent is 126 at least
exponent_at_least : (x t : ℕ) → t < 2 ^ 23 → 2 ^ 148 ≤ units_by x t → 126 ≤ x
exponent_at_least x t k h = lt_of_not-le (λ (g : x ≤ 125). not-le_of_lt (less x g) h)
  where
    less : (x : ℕ) → x ≤ 125 → units_by x t < 2 ^ 148
    less zero g = lt_of_lt_of_le k (lit≤ tt)
    less (suc y) g = lt_of_lt_of_le (mul-lt-mul_of_pos_right {n = 2 ^ 24} (omega arith) (pow_pos y)) (mul-le-mul {n₁ = 2 ^ 24} (le_of_eq refl) (pow_mono {i = y} {j = 124} (omega arith)))

module _ (x : Float) (w : Within x) where
  abbrev pub fine : ℕ
  fine = fine_by (exponent_of (to_bits binary32 x)) (digits_of (to_bits binary32 x))

  pub fine_is : fine * 2 ^ 125 ≡ units x
  fine_is =
      let b : ℕ = to_bits binary32 x in
      fine_units (exponent_of b) (digits_of b) (exponent_at_least (exponent_of b) (digits_of b) (omega arith) w.1)

  -- at most 2,047 · 2^24
  pub fine_small : fine ≤ 34342961152
  fine_small = le_of_mul-le-mul_right {k = 2 ^ 125} (subst (λ (z : ℕ). z ≤ 34342961152 * 2 ^ 125) (sym fine_is) w.2) (pow_pos 125)

  fine_value : HasValue x false fine (2 ^ 24)
  fine_value = go x w.0
    where
      go : (y : Float) → HasValue y false (units x) (2 ^ 149) → HasValue y false fine (2 ^ 24)
      go nan v = v
      go (inf s) v = v
      go (fin s m e) v = (
        v.0,
        eq_of_mul-eq-mul_right (2 ^ 125) (pow_pos 125) (m * up e * 2 ^ 24) (fine * down e)
            (mul_assoc (m * up e) (2 ^ 24) (2 ^ 125) ∙ v.1 ∙ ap (λ (z : ℕ). z * down e) (sym fine_is) ∙ mul_right_comm fine (2 ^ 125) (down e)),
      )

  -- its sum with 2^28, and the lowest 52 bits of that
  abbrev pub moved : Float
  moved = add binary64 x shift

  moved_value : HasValue moved false (fine + 2 ^ 52) (2 ^ 24)
  moved_value = sum_value x fine fine_value (omega (arith, fine_small))

  pub moved_bits : to_bits binary64 moved % 4503599627370496 ≡ fine
  moved_bits =
      let e : to_bits binary64 moved ≡ 1050 * 2 ^ 52 + (fine + 2 ^ 52) = bits_of moved (fine + 2 ^ 52) moved_value (omega arith) (omega (arith, fine_small)) in
      low_bits (to_bits binary64 moved) fine e fine_small
    where
      low_bits : (n k : ℕ) → n ≡ 1050 * 2 ^ 52 + (k + 2 ^ 52) → k ≤ 34342961152 → n % 4503599627370496 ≡ k
      low_bits n k e h = omega arith

  -- neither is a NaN
  reads : (y : Float) (a c : ℕ) → HasValue y false a c → T (not (is_nan y))
  unfolding is_nan
  reads nan a c v = absurd v
  reads (inf s) a c v = absurd v
  reads (fin s m e) a c v = tt

  pub fine_reads : T (not (is_nan x))
  fine_reads = reads x fine (2 ^ 24) fine_value

  pub moved_reads : T (not (is_nan moved))
  moved_reads = reads moved (fine + 2 ^ 52) (2 ^ 24) moved_value
