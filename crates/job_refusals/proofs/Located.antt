-- What the tests of a record's length and count say of its answer. Assumes nothing.
use Rattle.std.proofs.Common.{◌≡◌, List, Result, Ok, Err, ℕ, ◌+◌, ◌*◌, ◌≤◌, ◌<◌, length, lt-ltb, le-ltb, ne_eqb}
use Rattle.spec.specs.Faults.{first}
use Rattle.spec.specs.Record.{fields, exponent, positions, pairs_at, pair_count, soft_at, shape_faults}
use Rattle.laws.specs.FirstFault.{First, none, here, later, is_first, first_through, inside, differ, same}
use Rattle.job_fields.specs.declared.record.JobRecord.{JobRecord}
use Rattle.refusals.specs.declared.Refusal.{Refusal}
use Rattle.refusals.specs.Number.{number_of}
use Rattle.job_refusals.specs.Shape.{length_faults, Found}

module _ (s : List ℕ) where
  -- past the conditions before the last ones
  pub past : {k : ℕ} → (length s ≡ 0 → ⊥) → fields s ≤ 31 → (length s ≡ 1 → ⊥) → 2 ≤ exponent s → exponent s ≤ 10
      → First (length_faults s) k → First (shape_faults s) k
  past filled known two low high f =
      later (ne_eqb (length s) 0 filled) (later (le-ltb 31 (fields s) known) (later (ne_eqb (length s) 1 two) (later (inside 2 10 (exponent s) low high) f)))

  -- an answer by the last conditions is one by all, once those before them are passed
  pub passed : ((k : ℕ) → First (length_faults s) k → First (shape_faults s) k) → (r : Result JobRecord Refusal)
      → Found s (length_faults s) r → Found s (shape_faults s) r
  passed f (Ok r) (w, e) = (w, first_through (f 0) e)
  passed f (Err x) e = first_through (f (number_of x)) e

  -- the last conditions
  pub too_short : length s < pairs_at s → 13 ≡ first (length_faults s)
  too_short h = is_first (length_faults s) 13 (here (lt-ltb (length s) (pairs_at s) h))

  module _ (h : pairs_at s ≤ length s) where
    pub too_many : 256 < pair_count s → 15 ≡ first (length_faults s)
    too_many k = is_first (length_faults s) 15 (later (le-ltb (length s) (pairs_at s) h) (here (lt-ltb 256 (pair_count s) k)))

    module _ (few : pair_count s ≤ 256) where
      pub wrong_length : (length s ≡ soft_at s + 2 * positions s → ⊥) → 13 ≡ first (length_faults s)
      wrong_length x =
          is_first (length_faults s) 13
          (later (le-ltb (length s) (pairs_at s) h)
          (later (le-ltb 256 (pair_count s) few) (here (differ (length s) (soft_at s + 2 * positions s) x))))

      pub none_applies : length s ≡ soft_at s + 2 * positions s → 0 ≡ first (length_faults s)
      none_applies whole =
          is_first (length_faults s) 0
          (later (le-ltb (length s) (pairs_at s) h)
          (later (le-ltb 256 (pair_count s) few) (later (same (length s) (soft_at s + 2 * positions s) whole) none)))
