-- From the decoder to the customer: 02, wish 11. What a decoder call gives may be handed to the result writer as it is, for every code, list
-- size, stop position, soft values and lent memory, and what the writer makes of it tells the customer exactly the rows and the ceiling of the
-- decoder on paper. Here are the words, that the writer's conditions hold, and that just this is handed over; that it is written and read back
-- stands in proofs/DecodedResult.antt. No code is in scope: the theorems are over the definitions.
use Rattle.std.specs.Prelude.{◌≡◌, ℕ, ◌-◌, ◌*◌, ◌^◌, ◌≤◌, ◌<◌, take, replicate, ℤ, pos, negsuc, nat_abs}
use Rattle.std.proofs.Common.{arith, pow_pos}
use Rattle.std.proofs.Math.Path.{ap₂}
use mathlib.Core.List.{List, ◌++◌, map}
use Rattle.std.proofs.Math.ListN.{length}
use Rattle.std.proofs.lemmas.List.{length-map}
use Rattle.std.proofs.Math.Seq.{take_at}
use Rattle.spec.specs.Code.{Code, size, frozen, clear, code_transform}
use Rattle.spec.specs.Score.{correlation, taken}
use Rattle.spec.specs.Decoder.{Row, rows, ceiling}
use Rattle.spec.specs.Refusals.{Room, run_faults, table_faults, decode_faults}
use Rattle.spec.specs.RowCount.{row_count}
use Rattle.spec.specs.Outcome.{Answer, decoded, refused_by, Decoding, concat, decode_refusal, decode_served}
use Rattle.spec.specs.ResultWriter.{Result, result_of}
use Rattle.laws.specs.FirstFault.{First, later, of_first, none_before}
use Rattle.laws.specs.Taken.{magnitude_range}
use Rattle.laws.specs.ListCost.{all_under}
use Rattle.laws.specs.EveryScore.{size_correlation, rows_have, ceiling_has}
use Rattle.laws.specs.Accepted.{Accepted, accepted_of, code_numbers, size_small}
use Rattle.laws.specs.DecodeCall.{list_in_range, stop_in_range, map_right, soft_long, rows_at_most}
use Rattle.laws.specs.ResultWriting.{WritableResult}
use Rattle.search.specs.Ceiling.{ceiling_of}
use Rattle.search.specs.RowsByRank.{row_scores_fall, ceiling_not_below, length_inputs, bits_inputs}
use Rattle.result_round_trip.specs.FourBytes.{Wide}
use Rattle.result_round_trip.specs.ReadBack.{Fits}

-- ---- the statements' words
-- the rows that the decoder on paper gives for a call's arguments
abbrev pub paper_rows : Code → ℕ → ℕ → List ℤ → List Row
paper_rows c l p soft = rows (code_transform c) c (taken soft) l p

-- their scores, and their inputs one behind the other
abbrev pub scores_of : List Row → List ℤ
scores_of rs = map (λ (x : Row). x.score) rs

abbrev pub inputs_of : List Row → List ℕ
inputs_of rs = concat (map (λ (x : Row). x.input) rs)

-- the result of a block: m, the row count, a frame number, and the ceiling, scores and input rows of the decoder on paper
abbrev pub decoded_result : Code → ℕ → ℕ → List ℤ → ℕ → Result
decoded_result c l p soft frame =
    let rs : List Row = paper_rows c l p soft in
    result_of c.m (length rs) frame (ceiling (code_transform c) c (taken soft) l p) (scores_of rs) (inputs_of rs)

-- how many rows a call gives; a refused one gives none
abbrev pub rows_told : Answer → ℕ
rows_told (decoded k z) = k
rows_told (refused_by k) = 0

-- what a host hands to the writer: m, a frame number, the row count and the ceiling that the decoder's call answered, and of its outputs
-- the scores and the input rows from the front, as many as there are rows
abbrev pub handed_over : ℕ → ℕ → Decoding → Result
handed_over m frame o =
    let k : ℕ = rows_told o.answer in
    result_of m k frame (ceiling_of o.answer) (take k o.left.scores) (take (k * 2 ^ m) o.left.inputs)

-- ---- a call that is not refused, in lent memory of any lengths
-- a number within ±2,047 · 1,024 has 32 bits
wide_of : (z : ℤ) → nat_abs z ≤ 2047 * 1024 → Wide z
wide_of (pos k) h = omega (arith, h)
wide_of (negsuc k) h = omega (arith, h)

module _ (c : Code) (l p : ℕ) (soft : List ℤ) (r : Room) (e : 0 ≡ decode_refusal c l p soft r) where
  abbrev rs : List Row
  rs = paper_rows c l p soft

  -- no condition of the decoder applies: the code is accepted, the stop position is not past n, and there is a row
  passed : First (decode_faults c l p soft r) 0
  unfolding decode_refusal
  passed = of_first (decode_faults c l p soft r) 0 e

  accepts : Accepted c
  accepts = accepted_of (none_before (run_faults (size c) l p soft ++ table_faults (size c) l r) (code_numbers c) passed)

  stop : p ≤ size c
  stop = stop_in_range c l p soft r passed

  some_rows : 1 ≤ length rs
  some_rows =
      let list : 1 ≤ l = (list_in_range c l p soft r passed).0 in
      omega (arith, row_count (code_transform c) c (taken soft) l p list (map_right c l p soft r passed) stop, pow_pos (clear (take p (frozen c))))

  -- no correlation with soft values in range needs more than 32 bits
  correlations_wide : First (decode_faults c l p soft r) 0 → (w : List ℕ) → Wide (correlation (taken soft) w)
  correlations_wide (later _ (later _ (later _ (later _ (later _ (later _ (later _ (later _ (later _ (later range _)))))))))) w =
      wide_of (correlation (taken soft) w)
      (omega (arith, size_correlation (taken soft) w, magnitude_range soft range, soft_long c l p soft r passed, size_small accepts))

  -- ---- the theorems
  -- No condition of the writer but the room applies: m, row count and lengths are right, inputs are bits, the scores do not rise, and the
  -- ceiling is not below the first.
  pub decoded_writable : (frame : ℕ) → WritableResult (decoded_result c l p soft frame)
  decoded_writable frame = record {
    low = accepts.low;
    high = accepts.high;
    some_rows = some_rows;
    few_rows = omega (arith, rows_at_most c l p soft r passed, (list_in_range c l p soft r passed).1);
    inputs_long = length_inputs (code_transform c) c (taken soft) l p stop;
    scores_long = length-map rs (λ (x : Row). x.score);
    bits = bits_inputs (code_transform c) c (taken soft) l p stop;
    falling = row_scores_fall (code_transform c) c (taken soft) l p;
    not_below = ceiling_not_below (code_transform c) c (taken soft) l p some_rows;
  }

  -- Its numbers have 32 bits, where the frame number has.
  pub decoded_fits : (frame : ℕ) → frame < 4294967296 → Fits (decoded_result c l p soft frame)
  decoded_fits frame h = record {
    frame = h;
    ceiling = ceiling_has Wide (taken soft) (correlations_wide passed) (code_transform c) c l p;
    scores = all_under (λ (x : Row). x.score) Wide (rows_have Wide (taken soft) (correlations_wide passed) (code_transform c) c l p);
  }

  -- The scores and input rows of the decoder on paper lie at the front of what the call leaves, so what a host hands over of it is this result.
  pub scores_at_front : take (length (paper_rows c l p soft)) (decode_served c l p soft r).left.scores ≡ scores_of (paper_rows c l p soft)
  unfolding decode_served
  scores_at_front =
      take_at (scores_of rs) (replicate (r.scores - length (scores_of rs)) (pos 0)) (length rs) (length-map rs (λ (x : Row). x.score))

  pub inputs_at_front : take (length (paper_rows c l p soft) * size c) (decode_served c l p soft r).left.inputs ≡ inputs_of (paper_rows c l p soft)
  unfolding decode_served
  inputs_at_front =
      take_at (inputs_of rs) (replicate (r.inputs - length (inputs_of rs)) 0) (length rs * size c)
      (length_inputs (code_transform c) c (taken soft) l p stop)

  pub handed_over_lem : (frame : ℕ) → handed_over c.m frame (decode_served c l p soft r) ≡ decoded_result c l p soft frame
  unfolding decode_served
  handed_over_lem frame =
      ap₂ (λ (ys : List ℤ) (u : List ℕ). result_of c.m (length rs) frame (ceiling (code_transform c) c (taken soft) l p) ys u)
      scores_at_front inputs_at_front
