-- Whether the scores of a record rise, from any of them on, as laws of lists: one turn, and the end. Assumes nothing.
use Rattle.std.specs.Prelude.{◌≡◌, Bool, false, ◌||◌, List}
use Rattle.std.proofs.Common.{ap}
use Prim.Native.Nat.{ℕ, suc, ◌+◌, ◌-◌, ◌*◌, ◌<◌}
use native.Mathlib.Omega.{arith}
use Rattle.std.specs.Int.Signed.{lt_z}
use Rattle.spec.specs.Record.{four_at, signed32}
use Rattle.spec.specs.ResultRecord.{scores_from, rising}

module _ (s : List ℕ) (at k i : ℕ) where
  -- score i and the one behind it, then what is behind
  pub rising_turn : (b : Bool) → suc i < k → lt_z (signed32 (four_at s (at + 4 * i))) (signed32 (four_at s (at + 4 * i + 4))) ≡ b
      → rising (scores_from s (at + 4 * i) (k - i)) ≡ (b || rising (scores_from s (at + 4 * (i + 1)) (k - (i + 1))))
  unfolding scores_from rising
  rising_turn b h t =
      let e : k - i ≡ suc (suc (k - suc (suc i))) = omega arith in
      let f : k - (i + 1) ≡ suc (k - suc (suc i)) = omega arith in
      let g : at + 4 * (i + 1) ≡ at + 4 * i + 4 = omega arith in
      rw (e, f, g) (ap (λ (c : Bool). c || rising (scores_from s (at + 4 * i + 4) (suc (k - suc (suc i))))) t)

  pub rising_end : k - i ≡ 1 → rising (scores_from s (at + 4 * i) (k - i)) ≡ false
  unfolding scores_from rising
  rising_end e = rw e
