-- The soft values of samples in a row: how many there are, where each stands, and that none lies outside ±2,047.
use Rattle.std.specs.Prelude.{◌≡◌, Bool, true, false, cond, length, get_or, ℤ, pos}
use Rattle.std.proofs.Math.Path.{refl, ap}
use Rattle.std.proofs.Common.{◌∙◌}
use mathlib.Core.List.{List, [], ◌∷◌, ◌++◌}
use Prim.Native.Nat.{ℕ, zero, suc, ◌+◌, ◌*◌, ◌^◌, ◌≤◌, ◌<◌, min}
use native.Mathlib.Omega.{arith}
use Rattle.spec.specs.Record.{four_at}
use Rattle.spec.specs.Samples.{negative, endless, is_gap, units_of, nearest_to, held_magnitude, signed_by, soft_of, soft_pairs}
use Rattle.laws.specs.ListCost.{All, none, more}
use Rattle.laws.specs.SmallSoft.{Small}

-- ---- one value
held_small : (b : ℕ) → held_magnitude b ≤ 2047
unfolding held_magnitude
held_small b = by (endless b) (nearest_to (units_of b) (2 ^ 143))
  where
    by : (c : Bool) (n : ℕ) → cond c 2047 (min 2047 n) ≤ 2047
    by true n = omega arith
    by false n = omega arith

signed_small : (s : Bool) (k : ℕ) → k ≤ 2047 → Small (signed_by s k)
signed_small true zero h = h
signed_small true (suc k) h = h
signed_small false k h = h

pub soft_small : (b : ℕ) → Small (soft_of b)
unfolding soft_of
soft_small b = by (is_gap b)
  where
    by : (c : Bool) → Small (cond c (pos 0) (signed_by (negative b) (held_magnitude b)))
    by true = omega arith
    by false = signed_small (negative b) (held_magnitude b) (held_small b)

-- ---- all of them
module _ (s : List ℕ) where
  pub length_pairs : (at k : ℕ) → length (soft_pairs s at k) ≡ 2 * k
  unfolding soft_pairs
  length_pairs at zero = refl
  length_pairs at (suc k) = omega (arith, length_pairs (at + 8) k)

  pub pairs_small : (at k : ℕ) → All Small (soft_pairs s at k)
  unfolding soft_pairs
  pairs_small at zero = none
  pairs_small at (suc k) = more (soft_small (four_at s at)) (more (soft_small (four_at s (at + 4))) (pairs_small (at + 8) k))

  -- the last pair
  pub pairs_more : (at k : ℕ) → soft_pairs s at (suc k) ≡ soft_pairs s at k ++ (soft_of (four_at s (at + 8 * k)) ∷ soft_of (four_at s (at + 8 * k + 4)) ∷ [])
  unfolding soft_pairs
  pairs_more at zero = let e : at + 8 * 0 ≡ at = omega arith in rw e
  pairs_more at (suc k) =
      let e : at + 8 + 8 * k ≡ at + 8 * suc k = omega arith in
      ap (λ (l : List ℤ). soft_of (four_at s at) ∷ soft_of (four_at s (at + 4)) ∷ l)
      (pairs_more (at + 8) k ∙ ap (λ (n : ℕ). soft_pairs s (at + 8) k ++ (soft_of (four_at s n) ∷ soft_of (four_at s (n + 4)) ∷ [])) e)

  -- the value at place i is that of the four bytes from 4i on
  pub value_at : (at k i : ℕ) → i < 2 * k → get_or (soft_pairs s at k) i (pos 0) ≡ soft_of (four_at s (at + 4 * i))
  unfolding soft_pairs
  value_at at zero i h = absurd (let z : ⊥ = omega arith in z)
  value_at at (suc k) zero h = let e : at + 4 * 0 ≡ at = omega arith in rw e
  value_at at (suc k) (suc zero) h = refl
  value_at at (suc k) (suc (suc i)) h =
      let e : at + 8 + 4 * i ≡ at + 4 * suc (suc i) = omega arith in
      value_at (at + 8) k i (omega arith) ∙ ap (λ (n : ℕ). soft_of (four_at s n)) e
