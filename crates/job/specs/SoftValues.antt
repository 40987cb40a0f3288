-- The soft values of a record in a row, as they are taken: n of them from a place.
use Rattle.std.specs.Prelude.{◌≡◌, length, ℤ}
use Rattle.std.proofs.Math.Path.{ap}
use Rattle.std.proofs.Common.{◌∙◌}
use mathlib.Core.List.{List, [], ◌∷◌, ◌++◌, map-append}
use Prim.Native.Nat.{ℕ, zero, suc, ◌+◌, ◌*◌}
use native.Mathlib.Omega.{arith}
use Rattle.spec.specs.Score.{saturated, taken}
use Rattle.spec.specs.Record.{two_at, signed16, soft_from}
use Rattle.laws.specs.Taken.{length_taken}
use Rattle.job_fields.specs.SoftAt.{length_soft_from}
-- the one at a position
pub use Rattle.job_fields.specs.SoftAt.{soft_at_lem}

module _ (s : List ℕ) where
  pub length_soft : (at n : ℕ) → length (taken (soft_from s at n)) ≡ n
  length_soft at n = length_taken (soft_from s at n) ∙ length_soft_from s at n

  -- one more
  one_more : (at n : ℕ) → soft_from s at (suc n) ≡ soft_from s at n ++ (signed16 (two_at s (at + 2 * n)) ∷ [])
  unfolding soft_from
  one_more at zero = let e : at + 2 * 0 ≡ at = omega arith in rw e
  one_more at (suc n) =
      let e : at + 2 + 2 * n ≡ at + 2 * suc n = omega arith in
      ap (λ (l : List ℤ). signed16 (two_at s at) ∷ l) (one_more (at + 2) n ∙ ap (λ (k : ℕ). soft_from s (at + 2) n ++ (signed16 (two_at s k) ∷ [])) e)

  pub soft_more : (at n : ℕ) → taken (soft_from s at (suc n)) ≡ taken (soft_from s at n) ++ (saturated (signed16 (two_at s (at + 2 * n))) ∷ [])
  soft_more at n = ap taken (one_more at n) ∙ map-append saturated (soft_from s at n) (signed16 (two_at s (at + 2 * n)) ∷ [])
