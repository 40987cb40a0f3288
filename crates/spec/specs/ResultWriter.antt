-- The writer of result records: 02, wish 11. What it writes of a result, what it is refused for, and what a call comes to.
use Rattle.std.specs.Prelude.{List, [], ◌∷◌, ◌++◌, ℕ, zero, suc, ◌+◌, ◌*◌, ◌^◌, length, take, drop, ℤ}
use Rattle.std.specs.Int.Signed.{lt_z}
use Rattle.spec.specs.Bits.{packed}
use Rattle.spec.specs.Code.{map_bytes}
use Rattle.spec.specs.Faults.{Fault, fault, first, settled, outside}
use Rattle.spec.specs.Refusals.{length_fault, bit_fault, room_fault}
use Rattle.spec.specs.RecordOf.{Field, low_first, field_bit, field_bytes, thirty_two_bits}
use Rattle.spec.specs.JobWriter.{unless}
use Rattle.spec.specs.Outcome.{padded, long, refused_length, Writing, writing}
use Rattle.spec.specs.ResultRecord.{first_score, rising}

-- a result: m, row count, frame number, ceiling, and the scores and the input rows by rank
pub record Result : Type 0 where
  pub m : ℕ
  pub rows : ℕ
  pub frame : ℕ
  pub ceiling : ℤ
  pub scores : List ℤ
  pub inputs : List ℕ

abbrev pub result_of : ℕ → ℕ → ℕ → ℤ → List ℤ → List ℕ → Result
result_of m rows frame ceiling scores inputs =
    record { m = m; rows = rows; frame = frame; ceiling = ceiling; scores = scores; inputs = inputs }

-- bits packed into b bytes, eight to a byte from the low end; behind the last bit is 0
unfoldable pub packed_bytes : ℕ → List ℕ → List ℕ
packed_bytes zero u = []
packed_bytes (suc b) u = packed (take 8 u) ∷ packed_bytes b (drop 8 u)

-- k rows of n bits, each packed by itself into as many bytes as a frozen map has
unfoldable pub packed_rows : ℕ → ℕ → List ℕ → List ℕ
packed_rows n zero u = []
packed_rows n (suc k) u = packed_bytes (map_bytes n) (take n u) ++ packed_rows n k (drop n u)

-- four bytes a score
unfoldable pub score_bytes : List ℤ → List ℕ
score_bytes [] = []
score_bytes (y ∷ ys) = low_first 4 (thirty_two_bits y) ++ score_bytes ys

module _ (r : Result) where
  abbrev pub size : ℕ
  size = 2 ^ r.m

  -- the frame number is left out if 0, the ceiling if equal to the first score
  abbrev pub frame_field : Field
  frame_field = unless 0 r.frame

  abbrev pub ceiling_field : Field
  ceiling_field = unless (thirty_two_bits (first_score r.scores)) (thirty_two_bits r.ceiling)

  -- byte 0, m, row count and the fields that stand
  abbrev pub head_bytes : List ℕ
  head_bytes =
      (field_bit frame_field + 2 * field_bit ceiling_field) ∷ r.m ∷ r.rows ∷ (field_bytes 4 frame_field ++ field_bytes 4 ceiling_field)

  -- then the scores and the packed rows
  unfoldable pub written_result : List ℕ
  written_result = head_bytes ++ (score_bytes r.scores ++ packed_rows size r.rows r.inputs)

  -- 1, 4, 6 (inputs, scores), 11, 22 (rising scores, a ceiling below the first), 10: the output has `room` bytes
  abbrev pub write_result_faults : ℕ → List Fault
  write_result_faults room =
      fault 1 (outside 2 10 r.m)
      ∷ fault 4 (outside 1 32 r.rows)
      ∷ length_fault (r.rows * size) (length r.inputs)
      ∷ length_fault r.rows (length r.scores)
      ∷ bit_fault r.inputs
      ∷ fault 22 (rising r.scores)
      ∷ fault 22 (lt_z r.ceiling (first_score r.scores))
      ∷ room_fault (length written_result) room
      ∷ []

unfoldable pub write_result_refusal : Result → ℕ → ℕ
write_result_refusal r room = first (write_result_faults r room)

-- the record at the front of the output, and 0 behind it
unfoldable pub write_result_served : Result → ℕ → Writing
write_result_served r room = writing (long (length (written_result r))) (padded 0 room (written_result r))

unfoldable pub write_result_outcome : Result → List ℕ → Writing
write_result_outcome r out =
    settled (write_result_refusal r (length out)) (λ k. writing (refused_length k) out) (write_result_served r (length out))
