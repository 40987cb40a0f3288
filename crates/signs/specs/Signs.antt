-- Signed numbers as code holds them, at any width. A number that fits is read back from its bits as it is. Assumes nothing.
use Rattle.std.specs.Prelude.{◌≡◌, refl, true, false, ℕ, zero, suc, ◌+◌, ◌-◌, ◌^◌, ◌<◌, ◌≤◌, T, ℤ, pos, negsuc, neg_ℤ, nat_abs, ◌+ℤ◌, ◌-ℤ◌}
use Rattle.std.proofs.Common.{sym, ap, subst, ◌∙◌, true≢false, not-suc-le-zero, arith, le-ltb, ltb-true}
use Rattle.std.proofs.Math.IntN.{+ℤ_idl, +ℤ_comm, +ℤ-neg_ℤ_cancel, pos-+ℤ-pos, neg_ℤ-+ℤ, neg_ℤ-neg_ℤ}
use Rattle.std.specs.Int.Signed.{lt_z, non_neg, mag}
use Rattle.std.specs.Int.{Width}
use mir.Val.{hbits, SFits, to_z, of_z}
use Rattle.std.proofs.lemmas.Int.{to_z_pos, to_z-of_z}

negative : (z : ℤ) → lt_z z (pos 0) ≡ true → z ≡ negsuc (mag z)
negative (pos n) t = absurd (not-suc-le-zero (ltb-true n 0 t))
negative (negsuc n) t = refl

not_negative : (z : ℤ) → lt_z z (pos 0) ≡ false → T (non_neg z)
not_negative (pos n) t = tt
not_negative (negsuc n) t = absurd (true≢false t)

minus_one_minus : (n : ℕ) → (negsuc 0 -ℤ negsuc n) ≡ pos n
minus_one_minus n = let e : suc n - 1 ≡ n = omega arith in rw (le-ltb (suc n) 1 (omega arith)) (ap pos e)

-- ---- the magnitude of a number z
module _ (w : Width) (z : ℤ) (f : SFits w z) where
  -- z, read back
  abbrev v : ℤ
  v = to_z w (of_z w z)

  pub size_back : nat_abs v ≡ nat_abs z
  size_back = ap nat_abs (to_z-of_z w z f)

  -- below 0: -1 - z is one less than the magnitude
  module _ (t : lt_z v (pos 0) ≡ true) where
    pub is_negative : z ≡ negsuc (mag z)
    is_negative = negative z (subst (λ (y : ℤ). lt_z y (pos 0) ≡ true) (to_z-of_z w z f) t)

    flip_is : (negsuc 0 -ℤ v) ≡ pos (mag z)
    flip_is = ap (λ (y : ℤ). negsuc 0 -ℤ y) (to_z-of_z w z f ∙ is_negative) ∙ minus_one_minus (mag z)

    pub flip_fits : SFits w (negsuc 0 -ℤ v)
    flip_fits = subst (SFits w) (sym flip_is) (record { sfits = f.sfits })

    pub flip_back : to_z w (of_z w (negsuc 0 -ℤ v)) ≡ pos (mag z)
    flip_back = to_z-of_z w (negsuc 0 -ℤ v) flip_fits ∙ flip_is

    pub flip_size : nat_abs (to_z w (of_z w (negsuc 0 -ℤ v))) + 1 ≡ nat_abs z
    flip_size = ap (λ (y : ℤ). nat_abs y + 1) flip_back ∙ sym (omega (arith, ap nat_abs is_negative))

  -- 0 or above
  module _ (t : lt_z v (pos 0) ≡ false) where
    pub not_below : T (non_neg v)
    not_below = not_negative v t

-- ---- a number below 0 as code makes it: −1 − n, for an n that is not too large
minus_one : (n : ℕ) → (negsuc 0 -ℤ pos n) ≡ negsuc n
minus_one zero = refl
minus_one (suc n) = let e : 0 + n ≡ n = omega arith in ap (λ (k : ℕ). negsuc (suc k)) e

module _ (w : Width) (n : ℕ) (h : n < 2 ^ hbits w) where
  pub below_zero : (negsuc 0 -ℤ to_z w n) ≡ negsuc n
  below_zero = ap (λ (z : ℤ). negsuc 0 -ℤ z) (to_z_pos w n h) ∙ minus_one n

  pub below_zero_fits : SFits w (negsuc 0 -ℤ to_z w n)
  below_zero_fits = subst (SFits w) (sym below_zero) (record { sfits = h })

  pub below_zero_back : to_z w (of_z w (negsuc 0 -ℤ to_z w n)) ≡ negsuc n
  below_zero_back = to_z-of_z w (negsuc 0 -ℤ to_z w n) below_zero_fits ∙ below_zero

-- ---- the difference of two numbers a and b
difference : (a b : ℕ) → b ≤ a → pos (a - b) ≡ (pos a -ℤ pos b)
difference a b h =
    let e : a - b + b ≡ a = omega arith in
    sym (ap (λ (z : ℤ). z -ℤ pos b) (sym (pos-+ℤ-pos (a - b) b ∙ ap pos e)) ∙ +ℤ-neg_ℤ_cancel (pos (a - b)) (pos b))

difference_below : (a b : ℕ) → a ≤ b → neg_ℤ (pos (b - a)) ≡ (pos a -ℤ pos b)
difference_below a b h =
    ap neg_ℤ (difference b a h)
    ∙ neg_ℤ-+ℤ (pos b) (neg_ℤ (pos a))
    ∙ ap (λ (z : ℤ). neg_ℤ (pos b) +ℤ z) (neg_ℤ-neg_ℤ (pos a))
    ∙ +ℤ_comm (neg_ℤ (pos b)) (pos a)

module _ (w : Width) where
  neg_fits : (n : ℕ) → n < 2 ^ hbits w → SFits w (neg_ℤ (pos n))
  neg_fits zero h = record { sfits = h }
  neg_fits (suc n) h = record { sfits = omega arith }

  pub minus_is : (n : ℕ) → n < 2 ^ hbits w → (pos 0 -ℤ to_z w n) ≡ neg_ℤ (pos n)
  minus_is n h = ap (λ (z : ℤ). pos 0 -ℤ z) (to_z_pos w n h) ∙ +ℤ_idl (neg_ℤ (pos n))

  pub minus_fits : (n : ℕ) → n < 2 ^ hbits w → SFits w (pos 0 -ℤ to_z w n)
  minus_fits n h = subst (SFits w) (sym (minus_is n h)) (neg_fits n h)

  module _ (a b : ℕ) where
    pub above_back : b ≤ a → a - b < 2 ^ hbits w → to_z w (a - b) ≡ (pos a -ℤ pos b)
    above_back h small = to_z_pos w (a - b) small ∙ difference a b h

    pub minus_back : a ≤ b → b - a < 2 ^ hbits w → to_z w (of_z w (pos 0 -ℤ to_z w (b - a))) ≡ (pos a -ℤ pos b)
    minus_back h small =
        to_z-of_z w (pos 0 -ℤ to_z w (b - a)) (minus_fits (b - a) small) ∙ minus_is (b - a) small ∙ difference_below a b h
