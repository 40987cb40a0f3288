-- Soft values as they are taken: taking them again changes nothing, none comes into range or leaves it, and in range each has a
-- magnitude of at most 2,047.
use Rattle.std.specs.Prelude.{◌≡◌, refl, Bool, true, false, cond, ◌||◌, List, [], ◌∷◌, ℕ, ◌*◌, ◌≤◌, length, ltb, eqb, ℤ, pos, negsuc, nat_abs}
use Rattle.std.proofs.Common.{sym, ap₂, subst, arith, eqb-true, ltb-false}
use Rattle.std.proofs.lemmas.Bool.{eqb-false}
use Rattle.std.proofs.lemmas.List.{length-map}
use Rattle.spec.specs.Score.{saturated, taken}
use Rattle.spec.specs.Faults.{some}
use Rattle.spec.specs.Refusals.{out_of_range}
use Rattle.laws.specs.Cost.{magnitude}
use Rattle.laws.specs.FirstFault.{not_either}

-- ---- one value
-- below 0 it is −2,048, or it stays
below : (P : ℕ → ℤ → Type 0) → P 2047 (negsuc 2046) → ((n : ℕ) → eqb n 2047 ≡ false → P n (negsuc n)) → (n : ℕ) → P n (saturated (negsuc n))
below P lowest other n = go (eqb n 2047) refl
  where
    go : (b : Bool) → eqb n 2047 ≡ b → P n (cond b (negsuc 2046) (negsuc n))
    go true e = subst (λ (k : ℕ). P k (negsuc 2046)) (sym (eqb-true n 2047 e)) lowest
    go false e = other n e

saturated_twice : (y : ℤ) → saturated (saturated y) ≡ saturated y
saturated_twice (pos n) = refl
saturated_twice (negsuc n) = below (λ _ z. saturated z ≡ z) refl (λ k e. rw e) n

range_same : (y : ℤ) → out_of_range (saturated y) ≡ out_of_range y
range_same (pos n) = refl
range_same (negsuc n) = below (λ k z. out_of_range z ≡ out_of_range (negsuc k)) refl (λ k e. refl) n

pub saturated_small : (y : ℤ) → out_of_range y ≡ false → nat_abs (saturated y) ≤ 2047
saturated_small (pos n) e = ltb-false 2047 n e
saturated_small (negsuc n) e =
    below (λ k z. out_of_range (negsuc k) ≡ false → nat_abs z ≤ 2047) (λ q. omega arith)
    (λ k x q. let h : k ≤ 2047 = ltb-false 2047 k (not_either (ltb 2047 k) false q).0 in omega (arith, eqb-false k 2047 x)) n e

-- ---- all values of a list
pub length_taken : (ys : List ℤ) → length (taken ys) ≡ length ys
length_taken ys = length-map ys saturated

pub taken_twice : (ys : List ℤ) → taken (taken ys) ≡ taken ys
taken_twice [] = refl
taken_twice (y ∷ ys) = ap₂ ◌∷◌ (saturated_twice y) (taken_twice ys)

pub taken_range : (ys : List ℤ) → some out_of_range (taken ys) ≡ some out_of_range ys
unfolding some
taken_range [] = refl
taken_range (y ∷ ys) = ap₂ ◌||◌ (range_same y) (taken_range ys)

pub magnitude_range : (ys : List ℤ) → some out_of_range ys ≡ false → magnitude (taken ys) ≤ 2047 * length ys
unfolding some
magnitude_range [] e = omega arith
magnitude_range (y ∷ ys) e =
    let r = not_either (out_of_range y) (some out_of_range ys) e in
    omega (arith, saturated_small y r.0, magnitude_range ys r.1)
