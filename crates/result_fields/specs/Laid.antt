-- What is known of a layout of a result record whose shape is right, and of the fields that it may have.
use Rattle.std.specs.Prelude.{◌≡◌, List, ℕ, zero, suc, ◌+◌, ◌-◌, ◌*◌, ◌/◌, ◌%◌, ◌≤◌, ◌<◌, length, get_or, pos}
use Rattle.std.proofs.Common.{ap, ◌∙◌, arith}
use Rattle.spec.specs.Record.{fields, exponent, positions, four_at, signed32}
use Rattle.spec.specs.ResultRecord.{scores_from, first_score, ceiling_at, scores_at, row_count, packed_at, result_scores}
use Rattle.laws.specs.ResultReading.{ShapedResult}
use Rattle.result_fields.specs.declared.layout.Layout.{Layout}

-- a layout is that of the record
pub record Laid (s : List ℕ) (at : Layout) : Type 0 where
  pub shaped : ShapedResult s
  pub fields_are : at.fields ≡ fields s
  pub m_is : at.m ≡ exponent s
  pub rows_are : at.rows ≡ row_count s
  pub n_is : at.n ≡ positions s
  pub small : at.n ≤ 1024
  pub scores_begin : at.scores ≡ scores_at (fields s)
  pub packed_begins : at.packed ≡ packed_at s

-- the record has the bytes of a field that stands, and those of the scores
module _ {s : List ℕ} (w : ShapedResult s) where
  pub frame_within : (fields s % 2 ≡ 0 → ⊥) → 3 + 3 < length s
  frame_within x = omega (arith, w.ends, w.some_rows)

  pub ceiling_within : (fields s / 2 % 2 ≡ 0 → ⊥) → ceiling_at (fields s) + 3 < length s
  ceiling_within x = omega (arith, w.ends, w.some_rows)

  -- the first score is the first number there
  pub first_is : signed32 (four_at s (scores_at (fields s))) ≡ first_score (result_scores s)
  unfolding scores_from
  first_is = let e : row_count s ≡ suc (row_count s - 1) = omega (arith, w.some_rows) in rw e

  pub first_within : scores_at (fields s) + 3 < length s
  first_within = omega (arith, w.ends, w.some_rows)

-- the number where a score is
pub score_is : (s : List ℕ) (at n i : ℕ) → i < n → signed32 (four_at s (at + 4 * i)) ≡ get_or (scores_from s at n) i (pos 0)
unfolding scores_from
score_is s at (suc n) zero h = let e : at + 4 * 0 ≡ at = omega arith in rw e
score_is s at (suc n) (suc i) h =
    let e : at + 4 * suc i ≡ at + 4 + 4 * i = omega arith in
    ap (λ (k : ℕ). signed32 (four_at s k)) e ∙ score_is s (at + 4) n i (omega arith)
score_is s at zero i h = absurd (omega arith)
