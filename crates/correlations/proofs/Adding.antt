-- A soft value, negated where a bit is 1, added to a number modulo 2 ^ 32. Assumes nothing.
use Rattle.std.proofs.Common.{◌≡◌, ℕ, zero, suc, ◌+◌, ◌%◌, ◌<◌, ℤ, pos, negsuc, ◌+ℤ◌, ◌-ℤ◌, neg_ℤ, ap, ◌∙◌, refl, ap₂, w16, w32, to_z, of_z, arith}
use lib.IntN.{+ℤ_idl}
use lib.Signed.{mag}
use mir.ValLaws.{to_z-of_z}
use Rattle.spec.specs.Score.{signed}
use Rattle.correlations.specs.Folding.{wrapped}
use Rattle.correlations.specs.Wrapped.{wrapped_add}

code_is : (s : ℤ) → mag s < 2147483648 → of_z w32 s ≡ wrapped s
unfolding wrapped
code_is (pos n) h = omega arith
code_is (negsuc n) h = omega arith

-- r is x with s added, which is read as v
added : (x r : ℕ) (s v : ℤ) → v ≡ s → mag s < 2147483648 → r ≡ (x + of_z w32 v) % 4294967296 → (z : ℤ) → x ≡ wrapped z → r ≡ wrapped (z +ℤ s)
added x r s v e h q z p = q ∙ ap₂ (λ (m n : ℕ). (m + n) % 4294967296) p (ap (of_z w32) e ∙ code_is s h) ∙ wrapped_add z s

negated_fits : (y : ℤ) → mag y < 32768 → mag (neg_ℤ y) < 2147483648
negated_fits (pos zero) h = omega arith
negated_fits (pos (suc n)) h = omega arith
negated_fits (negsuc n) h = omega arith

negated : (y : ℤ) (b : ℕ) → (b ≡ 0 → ⊥) → signed y b ≡ neg_ℤ y
negated y zero n = absurd (n refl)
negated y (suc b) n = refl

-- y is read as f in 32 bits
module _ (y f : ℤ) (small : mag y < 32768) (read : f ≡ to_z w16 (of_z w16 y)) where
  same : f ≡ y
  same = read ∙ to_z-of_z w16 y (record { sfits = small })

  wide : to_z w32 (of_z w32 f) ≡ y
  wide = ap (λ (k : ℤ). to_z w32 (of_z w32 k)) same ∙ to_z-of_z w32 y (record { sfits = omega arith })

  module _ (b x r : ℕ) (v : ℤ) (q : r ≡ (x + of_z w32 v) % 4294967296) where
    pub kept_added : b ≡ 0 → v ≡ to_z w32 (of_z w32 f) → (z : ℤ) → x ≡ wrapped z → r ≡ wrapped (z +ℤ signed y b)
    kept_added e k = rw e (added x r y v (k ∙ wide) (omega arith) q)

    pub negated_added : (b ≡ 0 → ⊥) → v ≡ to_z w32 (of_z w32 (pos 0 -ℤ to_z w32 (of_z w32 f))) → (z : ℤ) → x ≡ wrapped z → r ≡ wrapped (z +ℤ signed y b)
    negated_added n k =
        let away : pos 0 -ℤ to_z w32 (of_z w32 f) ≡ neg_ℤ y = ap (λ (t : ℤ). pos 0 -ℤ t) wide ∙ +ℤ_idl (neg_ℤ y) in
        let back : v ≡ neg_ℤ y = k ∙ ap (λ (t : ℤ). to_z w32 (of_z w32 t)) away ∙ to_z-of_z w32 (neg_ℤ y) (record { sfits = negated_fits y small }) in
        rw (negated y b n) (added x r (neg_ℤ y) v back (negated_fits y small) q)
