-- The soft values of a record in a row: n of them from a place, and the one at each position.
use Rattle.std.specs.Prelude.{◌≡◌, refl, List, ℕ, zero, suc, ◌+◌, ◌*◌, ◌<◌, length, get_or, pos}
use Rattle.std.proofs.Common.{ap, arith}
use Rattle.spec.specs.Record.{two_at, signed16, soft_from}

module _ (s : List ℕ) where
  pub length_soft_from : (at n : ℕ) → length (soft_from s at n) ≡ n
  unfolding soft_from
  length_soft_from at zero = refl
  length_soft_from at (suc n) = ap suc (length_soft_from (at + 2) n)

  pub soft_at_lem : (at n i : ℕ) → i < n → get_or (soft_from s at n) i (pos 0) ≡ signed16 (two_at s (at + 2 * i))
  unfolding soft_from
  soft_at_lem at zero i h = absurd (omega arith)
  soft_at_lem at (suc n) zero h = let k : at + 2 * 0 ≡ at = omega arith in rw k
  soft_at_lem at (suc n) (suc i) h = let k : at + 2 * suc i ≡ at + 2 + 2 * i = omega arith in rw k (soft_at_lem (at + 2) n i (omega arith))
