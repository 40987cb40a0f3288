-- Theorems of the reader's outcome, with no code in scope: what a refused record writes, and what the number for a host says.
use Rattle.std.specs.Prelude.{◌≡◌, List, length, ℤ}
use Rattle.std.proofs.Math.Path.{refl}
use Prim.Native.Nat.{ℕ, zero, suc}
use Rattle.spec.specs.Faults.{settled}
use Rattle.spec.specs.Outcome.{refused_job, Reading, reading, read_refusal, read_served, read_outcome}
use Rattle.job.specs.Answer.{for_host}

module _ (s map : List ℕ) (soft : List ℤ) (pairs : List ℕ) where
  abbrev number : ℕ
  number = read_refusal s (length map) (length soft) (length pairs)

  abbrev outcome : ℕ → Reading
  outcome r = settled r (λ k. reading (refused_job k) map soft pairs) (read_served s (length map) (length soft) (length pairs))

  -- where a condition applies, the answer is its number alone, and the lent slices are as before
  pub refused_writes_nothing : (read_refusal s (length map) (length soft) (length pairs) ≡ 0 → ⊥)
      → read_outcome s map soft pairs ≡ reading (refused_job (read_refusal s (length map) (length soft) (length pairs))) map soft pairs
  unfolding read_outcome
  refused_writes_nothing x = by_number number x
    where
      by_number : (r : ℕ) → (r ≡ 0 → ⊥) → outcome r ≡ reading (refused_job r) map soft pairs
      by_number zero x = absurd (x refl)
      by_number (suc r) x = refl

  -- a host's number is that of the first condition that applies, and 0 where none does
  pub host_number : (for_host (read_outcome s map soft pairs)).answer.refusal ≡ read_refusal s (length map) (length soft) (length pairs)
  unfolding read_outcome read_served
  host_number = by_number number
    where
      by_number : (r : ℕ) → (for_host (outcome r)).answer.refusal ≡ r
      by_number zero = refl
      by_number (suc r) = refl
