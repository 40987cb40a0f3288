-- From the decoder to the customer: 02, wish 11. The result writer accepts what a decoder call gives as it is, and the customer is told
-- exactly the rows and the ceiling of the decoder on paper. No code is in scope: the theorems are over the definitions.
use Rattle.std.specs.Prelude.{◌≡◌, ℕ, ◌*◌, ◌≤◌, ◌<◌, ℤ, pos}
use Rattle.std.proofs.Common.{sym, ap, ◌∙◌, arith}
use mathlib.Core.List.{List}
use Rattle.std.proofs.Math.ListN.{length}
use Rattle.spec.specs.Code.{Code, size, code_transform}
use Rattle.spec.specs.Score.{taken}
use Rattle.spec.specs.Decoder.{ceiling}
use Rattle.spec.specs.Refusals.{Room}
use Rattle.spec.specs.Outcome.{padded, Lent, room_of, decode_refusal, decode_outcome}
use Rattle.spec.specs.ResultRecord.{result_says, customer_reading, customer_outcome}
use Rattle.spec.specs.ResultWriter.{Result, written_result, write_result_refusal}
use Rattle.laws.specs.DecodeCall.{AcceptedCall, accepted_is}
use Rattle.laws.specs.ResultWriting.{no_result_fault, result_accepted}
use Rattle.result_round_trip.specs.ReadBack.{customer_reads_back, written_at_most}
use Rattle.end_to_end.specs.DecodedResult.{paper_rows, scores_of, inputs_of, decoded_result, handed_over, decoded_writable, decoded_fits, handed_over_lem}

-- ---- a call that is not refused, in lent memory of any lengths
module _ (c : Code) (l p : ℕ) (soft : List ℤ) (r : Room) (e : 0 ≡ decode_refusal c l p soft r) where
  -- The writer accepts the result with room for its record, and 4,235 bytes are always enough.
  pub decoded_written : (frame room : ℕ) → length (written_result (decoded_result c l p soft frame)) ≤ room
      → 0 ≡ write_result_refusal (decoded_result c l p soft frame) room
  decoded_written frame room h =
      let x : Result = decoded_result c l p soft frame in
      result_accepted x room (no_result_fault x (decoded_writable c l p soft r e frame)) h

  pub decoded_written_always : (frame room : ℕ) → 4235 ≤ room → 0 ≡ write_result_refusal (decoded_result c l p soft frame) room
  decoded_written_always frame room h =
      let x : Result = decoded_result c l p soft frame in
      let k : ℕ = length (written_result x) in
      decoded_written frame room (omega (arith, h, written_at_most x k (decoded_written frame k (omega arith))))

  -- From what was written the customer is told m, the frame number, and the row count, ceiling, scores and input rows of the decoder on paper.
  pub decoded_read_back : (frame : ℕ) → frame < 4294967296 → (scores : List ℤ) (inputs : List ℕ)
      → length (paper_rows c l p soft) ≤ length scores → length (paper_rows c l p soft) * size c ≤ length inputs
      → customer_outcome (written_result (decoded_result c l p soft frame)) scores inputs
      ≡ customer_reading
      (result_says c.m (length (paper_rows c l p soft)) frame (ceiling (code_transform c) c (taken soft) l p))
      (padded (pos 0) (length scores) (scores_of (paper_rows c l p soft)))
      (padded 0 (length inputs) (inputs_of (paper_rows c l p soft)))
  decoded_read_back frame h scores inputs hs hi =
      let written : 0 ≡ write_result_refusal (decoded_result c l p soft frame) 4235 = decoded_written_always frame 4235 (omega arith) in
      customer_reads_back (decoded_result c l p soft frame) (decoded_fits c l p soft r e frame h) 4235 written scores inputs hs hi

-- ---- the outcome of an accepted call
module _ (c : Code) (l p : ℕ) (soft : List ℤ) (x : Lent) (a : AcceptedCall c l p soft x) (frame : ℕ) where
  -- What a host hands over of it is the result of the decoder on paper, with any frame number,
  pub outcome_handed_over : handed_over c.m frame (decode_outcome c l p soft x) ≡ decoded_result c l p soft frame
  outcome_handed_over = ap (handed_over c.m frame) (accepted_is c l p soft x a) ∙ handed_over_lem c l p soft (room_of x) (sym a) frame

  -- and the writer accepts it as it is.
  pub outcome_written : (room : ℕ) → 4235 ≤ room → 0 ≡ write_result_refusal (handed_over c.m frame (decode_outcome c l p soft x)) room
  outcome_written room h =
      decoded_written_always c l p soft (room_of x) (sym a) frame room h
      ∙ sym (ap (λ (y : Result). write_result_refusal y room) outcome_handed_over)
