-- Every score lies within ±2,047·n: 01, "Scores and lists".
use Rattle.std.specs.Prelude.{◌≡◌, false, List, ℕ, ◌*◌, ◌≤◌, length, ℤ, nat_abs}
use Rattle.std.proofs.Common.{arith}
use Rattle.spec.specs.Code.{Code, size, code_transform}
use Rattle.spec.specs.Score.{taken, correlation, score}
use Rattle.spec.specs.Decoder.{Row, rows, ceiling}
use Rattle.spec.specs.Faults.{some}
use Rattle.spec.specs.Refusals.{Room, out_of_range, decode_faults}
use Rattle.laws.specs.Taken.{magnitude_range}
use Rattle.laws.specs.FirstFault.{First, later, same_of}
use Rattle.laws.specs.ListCost.{All}
use Rattle.laws.specs.EveryScore.{size_correlation, score_has, rows_have, ceiling_has}

-- a score s of a code of n positions lies within ±2,047·n
abbrev pub InRange : ℕ → ℤ → Type 0
InRange n s = nat_abs s ≤ 2047 * n

-- a correlation with n soft values in range, as they are taken, lies there, and every score is a correlation
any_correlation : (n : ℕ) (y : List ℤ) → length y ≡ n → some out_of_range y ≡ false → (w : List ℕ) → InRange n (correlation (taken y) w)
any_correlation n y long range w = omega (arith, size_correlation (taken y) w, magnitude_range y range)

-- The score of every prefix lies within ±2,047·n, for n soft values in range, as they are taken.
pub score_in_range : (c : Code) (y : List ℤ) (w : List ℕ) → length y ≡ size c → some out_of_range y ≡ false
    → InRange (size c) (score (code_transform c) (size c) (taken y) w)
score_in_range c y w long range = score_has (InRange (size c)) (taken y) (any_correlation (size c) y long range) (code_transform c) (size c) w

-- Every score of a call that is not refused lies within ±2,047·n, and so does its ceiling.
module _ (c : Code) (l p : ℕ) (soft : List ℤ) (r : Room) where
  any_in_range : First (decode_faults c l p soft r) 0 → (w : List ℕ) → InRange (size c) (correlation (taken soft) w)
  any_in_range (later _ (later _ (later _ (later _ (later _ (later _ (later _ (later _ (later long (later range _)))))))))) =
      any_correlation (size c) soft (same_of (length soft) (size c) long) range

  pub row_scores_in_range : First (decode_faults c l p soft r) 0
      → All (λ (x : Row). InRange (size c) x.score) (rows (code_transform c) c (taken soft) l p)
  row_scores_in_range f = rows_have (InRange (size c)) (taken soft) (any_in_range f) (code_transform c) c l p

  pub ceiling_in_range : First (decode_faults c l p soft r) 0 → InRange (size c) (ceiling (code_transform c) c (taken soft) l p)
  ceiling_in_range f = ceiling_has (InRange (size c)) (taken soft) (any_in_range f) (code_transform c) c l p
