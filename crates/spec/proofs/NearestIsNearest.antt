-- `nearest_to a d` is the whole number nearest to a / d, halves to the even one, and no other number is. Assumes nothing.
use Rattle.std.specs.Prelude.{◌≡◌, refl}
use Rattle.std.proofs.Common.{mod-lt, div-add-mod', suc-mul, mul-le-mul_right, add-one, arith}
use Prim.Native.Nat.{ℕ, zero, suc, ◌+◌, ◌*◌, ◌/◌, ◌%◌, ◌≤◌, ◌<◌, compare, Ordering}
use Rattle.std.proofs.Math.Nat.{eq_of_mul-eq-mul_right}
use Rattle.spec.specs.Samples.{rounded, nearest_to}
use Rattle.spec.specs.NearestIsNearest.{Nearest, Cmp, cmp}

module _ (a d : ℕ) (pos : 0 < d) where
  parts : a / d * d + a % d ≡ a
  parts = div-add-mod' a d

  more : (q : ℕ) → (q + 1) * d ≡ q * d + d
  more q = rw (add-one q) (suc-mul q d)

  by_cases : (q r : ℕ) (o : Ordering) → q * d + r ≡ a → r < d → Cmp o (2 * r) d → Nearest a d (rounded q o)
  by_cases q r Ordering.lt e l c = record {
    not_above = omega arith;
    not_below = omega arith;
    half_above = λ h. absurd (let z : ⊥ = omega arith in z);
    half_below = λ h. absurd (let z : ⊥ = omega arith in z);
  }
  by_cases q r Ordering.eq e l c = to_even (q % 2) refl (omega arith)
    where
      to_even : (p : ℕ) → q % 2 ≡ p → p < 2 → Nearest a d (q + q % 2)
      to_even zero z k = rw z (record {
        not_above = omega (arith, e);
        not_below = omega (arith, e);
        half_above = λ h. omega arith;
        half_below = λ h. omega arith;
      })
      to_even (suc p) z k =
          let w : p ≡ 0 = omega arith in
          rw (z, w) (record {
            not_above = omega (arith, more q);
            not_below = omega (arith, more q);
            half_above = λ h. omega arith;
            half_below = λ h. omega arith;
          })
  by_cases q r Ordering.gt e l c = record {
    not_above = omega (arith, more q);
    not_below = omega (arith, more q);
    half_above = λ h. absurd (let z : ⊥ = omega (arith, more q) in z);
    half_below = λ h. absurd (let z : ⊥ = omega (arith, more q) in z);
  }

  pub is_nearest : Nearest a d (nearest_to a d)
  unfolding nearest_to
  is_nearest = by_cases (a / d) (a % d) (compare (2 * (a % d)) d) parts (mod-lt a pos) (cmp (2 * (a % d)) d)

  none_less : (n k : ℕ) → Nearest a d n → Nearest a d k → n < k → ⊥
  none_less n k x y h =
      let g : suc n * d ≤ k * d = mul-le-mul_right d h in
      let s : suc n * d ≡ n * d + d = suc-mul n d in
      let above = y.not_above in
      let below = x.not_below in
      let e : k * d ≡ suc n * d = omega arith in
      let f : k ≡ suc n = eq_of_mul-eq-mul_right d pos k (suc n) e in
      let u : n % 2 ≡ 0 = x.half_below (omega arith) in
      let v : k % 2 ≡ 0 = y.half_above (omega arith) in
      omega arith

  pub only_nearest : (n : ℕ) → Nearest a d n → n ≡ nearest_to a d
  only_nearest n x = by_order (compare n (nearest_to a d)) (cmp n (nearest_to a d))
    where
      by_order : (o : Ordering) → Cmp o n (nearest_to a d) → n ≡ nearest_to a d
      by_order Ordering.lt h = absurd (none_less n (nearest_to a d) x is_nearest h)
      by_order Ordering.eq e = e
      by_order Ordering.gt h = absurd (none_less (nearest_to a d) n is_nearest x h)
