-- Rounding to the nearest whole number: as the logic's own floats round, of equal fractions, and as the code does it.
use Rattle.std.specs.Prelude.{◌≡◌, refl}
use Rattle.std.proofs.Common.{sym, ap, subst, ◌∙◌, le_trans, le_of_eq, mul_comm, mul-one, zero-mul, le-div_iff_mul-le, add-one, arith}
use Prim.Native.Nat.{ℕ, zero, suc, ◌+◌, ◌*◌, ◌/◌, ◌%◌, ◌^◌, ◌≤◌, ◌<◌, compare, Ordering}
use Rattle.std.specs.Float.Ieee.{nearest}
use Rattle.std.specs.Float.Ieee.Nearest.{closest, closest_same, nearest-ge}
use Rattle.spec.specs.Samples.{rounded, nearest_to}
use Rattle.spec.specs.NearestIsNearest.{Nearest}
use Rattle.spec.proofs.NearestIsNearest.{is_nearest, only_nearest}

-- ---- as the logic's own floats round
rounded_is : (q : ℕ) (o : Ordering) → rounded q o ≡ nearest q o
rounded_is q Ordering.lt = refl
rounded_is q Ordering.eq = refl
rounded_is q Ordering.gt = add-one q

pub nearest_is : (a d : ℕ) → nearest_to a d ≡ closest a d
unfolding nearest_to
nearest_is a d = rounded_is (a / d) (compare (2 * (a % d)) d) ∙ ap (λ (x : ℕ). nearest (a / d) (compare x d)) (mul_comm 2 (a % d))

-- equal fractions round alike, and none is rounded below its whole part
pub nearest_same : (a b c d : ℕ) → 0 < b → 0 < d → a * d ≡ c * b → nearest_to a b ≡ nearest_to c d
nearest_same a b c d B D e = nearest_is a b ∙ closest_same a b c d B D e ∙ sym (nearest_is c d)

pub nearest_reaches : (k a d : ℕ) → 0 < d → k * d ≤ a → k ≤ nearest_to a d
nearest_reaches k a d D h =
    le_trans ((le-div_iff_mul-le D).1 h) (le_trans (nearest-ge (a / d) (compare (a % d * 2) d)) (le_of_eq (sym (nearest_is a d))))

-- a whole number is not moved
pub whole_nearest : (q d : ℕ) → 0 < d → nearest_to (q * d) d ≡ q
whole_nearest q d D = nearest_same (q * d) d q 1 D (omega arith) (mul-one (q * d)) ∙ over_one
  where
    over_one : nearest_to q 1 ≡ q
    over_one =
        let e : q * 1 ≡ q = mul-one q in
        sym (only_nearest q 1 (omega arith) q (record {
          not_above = omega arith;
          not_below = omega arith;
          half_above = λ h. absurd (let z : ⊥ = omega arith in z);
          half_below = λ h. absurd (let z : ⊥ = omega arith in z);
        }))

-- what is a half or less becomes 0, and what is more does not
pub half_at_most : (a d : ℕ) → 0 < d → 2 * a ≤ d → 0 ≡ nearest_to a d
half_at_most a d D h =
    let z : 0 * d ≡ 0 = zero-mul d in
    only_nearest a d D 0 (record {
      not_above = omega arith;
      not_below = omega arith;
      half_above = λ e. refl;
      half_below = λ e. refl;
    })

pub more_than_half : (a d : ℕ) → 0 < d → d < 2 * a → 1 ≤ nearest_to a d
more_than_half a d D h = by (nearest_to a d) (is_nearest a d D).not_below
  where
    by : (n : ℕ) → 2 * a ≤ 2 * (n * d) + d → 1 ≤ n
    by zero k = let z : 0 * d ≡ 0 = zero-mul d in absurd (let y : ⊥ = omega arith in y)
    by (suc n) k = omega arith

-- By one sum and one division: to the rest r is added a half less 1, and 1 more where the whole part q is odd; that carries c into q.
carried : (q r c : ℕ) → r < 16777216 → c * 16777216 ≤ r + 8388607 + q % 2 → r + 8388607 + q % 2 < c * 16777216 + 16777216
    → Nearest (q * 16777216 + r) 16777216 (q + c)
carried q r zero h low high = record {
  not_above = omega arith;
  not_below = omega arith;
  half_above = λ g. omega arith;
  half_below = λ g. omega arith;
}
carried q r (suc zero) h low high = record {
  not_above = omega arith;
  not_below = omega arith;
  half_above = λ g. omega arith;
  half_below = λ g. omega arith;
}
carried q r (suc (suc c)) h low high = absurd (let z : ⊥ = omega arith in z)

pub by_adding : (a : ℕ) → (a + 8388607 + a / 16777216 % 2) / 16777216 ≡ nearest_to a (2 ^ 24)
by_adding a =
    let q : ℕ = a / 16777216 in
    let r : ℕ = a % 16777216 in
    let c : ℕ = (r + 8388607 + q % 2) / 16777216 in
    let whole : q * 16777216 + r ≡ a = omega arith in
    let same : (a + 8388607 + q % 2) / 16777216 ≡ q + c = omega arith in
    same ∙ only_nearest a 16777216 (omega arith) (q + c)
    (subst (λ (x : ℕ). Nearest x 16777216 (q + c)) whole (carried q r c (omega arith) (omega arith) (omega arith)))
