-- No correlation of a code word is larger than 2,047 times 1,024, with at most 1,024 soft values in range.
use Rattle.std.specs.Prelude.{◌≡◌, false, List, [], ◌∷◌, map, ℕ, ◌≤◌, length, ℤ, nat_abs}
use Rattle.std.proofs.Common.{arith}
use Rattle.spec.specs.Code.{Code, payload_size, encoded}
use Rattle.spec.specs.Score.{taken, correlation}
use Rattle.spec.specs.Faults.{some}
use Rattle.spec.specs.Refusals.{out_of_range}
use Rattle.laws.specs.ListCost.{All, none, more}
use Rattle.laws.specs.EveryScore.{size_correlation}
use Rattle.laws.specs.Taken.{magnitude_range}
use Rattle.payload_blocks.specs.Payloads.{payloads, correlations}

pub correlations_small : (c : Code) (soft : List ℤ) → length soft ≤ 1024 → some out_of_range soft ≡ false
    → All (λ (z : ℤ). nat_abs z ≤ 2096128) (correlations c (taken soft))
unfolding correlations
correlations_small c soft few range = each (payloads (payload_size c))
  where
    each : (ps : List (List ℕ)) → All (λ (z : ℤ). nat_abs z ≤ 2096128) (map (λ (p : List ℕ). correlation (taken soft) (encoded c p)) ps)
    each [] = none
    each (p ∷ ps) =
        let small : nat_abs (correlation (taken soft) (encoded c p)) ≤ 2096128 = omega (arith, size_correlation (taken soft) (encoded c p), magnitude_range soft range) in
        more small (each ps)
