-- Result records, the order of refusals, and what both readers make of one record, by the definitions: 02, wish 11.
use Rattle.std.specs.Prelude.{◌≡◌, refl, List, [], ◌∷◌, ◌++◌, map, ℕ, replicate, pos, negsuc}
use Rattle.spec.specs.Bits.{bits_of, packed, unpacked}
use Rattle.spec.specs.Faults.{first, some}
use Rattle.spec.specs.Refusals.{past_end}
use Rattle.spec.specs.Outcome.{long, refused_length, writing}
use Rattle.spec.specs.ResultRecord.{scores_from, rising, rows_from, some_past, result_says, refused_result, operator_reading, operator_refusal, operator_served, operator_outcome, customer_reading, customer_refusal, customer_served, customer_outcome}
use Rattle.spec.specs.ResultWriter.{Result, result_of, packed_bytes, packed_rows, score_bytes, written_result, write_result_refusal, write_result_served, write_result_outcome}

-- ---- written
-- the rows that the sample job record is decoded to: 13 with input 0010, 11 with 0000, and the ceiling 13
unfoldable pub sample_result : Result
sample_result = result_of 2 2 0 (pos 13) (pos 13 ∷ pos 11 ∷ []) (0 ∷ 0 ∷ 1 ∷ 0 ∷ 0 ∷ 0 ∷ 0 ∷ 0 ∷ [])

unfoldable pub sample_bytes : List ℕ
sample_bytes = 0 ∷ 2 ∷ 2 ∷ 13 ∷ 0 ∷ 0 ∷ 0 ∷ 11 ∷ 0 ∷ 0 ∷ 0 ∷ 4 ∷ 0 ∷ []

-- that; then both fields, with the lowest score; then two bytes a row, equal scores, and the largest of all numbers
unfoldable pub results : List Result
results =
    sample_result
    ∷ result_of 2 1 67305985 (negsuc 1) (negsuc 2147483647 ∷ []) (1 ∷ 0 ∷ 1 ∷ 1 ∷ [])
    ∷ result_of 4 2 4294967295 (pos 2147483647) (negsuc 0 ∷ negsuc 0 ∷ [])
    ((1 ∷ 0 ∷ 1 ∷ 0 ∷ 0 ∷ 0 ∷ 0 ∷ 0 ∷ replicate 7 0) ++ (1 ∷ replicate 16 1))
    ∷ []

pub records : map written_result results
    ≡ sample_bytes
    ∷ (3 ∷ 2 ∷ 1 ∷ 1 ∷ 2 ∷ 3 ∷ 4 ∷ 254 ∷ 255 ∷ 255 ∷ 255 ∷ 0 ∷ 0 ∷ 0 ∷ 128 ∷ 13 ∷ [])
    ∷ (3 ∷ 4 ∷ 2 ∷ 255 ∷ 255 ∷ 255 ∷ 255 ∷ 255 ∷ 255 ∷ 255 ∷ 127 ∷ (replicate 8 255 ++ (5 ∷ 128 ∷ 255 ∷ 255 ∷ [])))
    ∷ []
unfolding results sample_result sample_bytes written_result score_bytes packed_rows packed_bytes packed
records = refl

-- results of which more and more is right: 1, 4 (no row, 33 rows), 6 (inputs, scores), 11, 22 (rising, ceiling below the first), and none
unfoldable pub faulty : List Result
faulty =
    result_of 1 0 0 (pos 0) (pos 1 ∷ pos 2 ∷ pos 3 ∷ []) (2 ∷ [])
    ∷ result_of 2 0 0 (pos 0) (pos 1 ∷ pos 2 ∷ pos 3 ∷ []) (2 ∷ [])
    ∷ result_of 2 33 0 (pos 0) (pos 1 ∷ pos 2 ∷ pos 3 ∷ []) (2 ∷ [])
    ∷ result_of 2 2 0 (pos 0) (pos 1 ∷ pos 2 ∷ pos 3 ∷ []) (2 ∷ [])
    ∷ result_of 2 2 0 (pos 0) (pos 1 ∷ pos 2 ∷ pos 3 ∷ []) (replicate 8 2)
    ∷ result_of 2 2 0 (pos 0) (pos 1 ∷ pos 2 ∷ []) (replicate 8 2)
    ∷ result_of 2 2 0 (pos 0) (pos 1 ∷ pos 2 ∷ []) (replicate 8 1)
    ∷ result_of 2 2 0 (pos 0) (pos 1 ∷ pos 1 ∷ []) (replicate 8 1)
    ∷ result_of 2 2 0 (pos 1) (pos 1 ∷ pos 1 ∷ []) (replicate 8 1)
    ∷ []

pub refused_in_order : map (λ (r : Result). write_result_refusal r 13) faulty ≡ 1 ∷ 4 ∷ 4 ∷ 6 ∷ 6 ∷ 11 ∷ 22 ∷ 22 ∷ 0 ∷ []
unfolding faulty write_result_refusal first some rising written_result score_bytes packed_rows packed_bytes packed
refused_in_order = refl

-- the sample needs 13 bytes: in 12 it is refused and nothing is written, in 15 there is 0 behind it
pub outcomes : map (write_result_outcome sample_result) (replicate 12 9 ∷ replicate 15 9 ∷ [])
    ≡ writing (refused_length 10) (replicate 12 9)
    ∷ writing (long 13) (0 ∷ 2 ∷ 2 ∷ 13 ∷ 0 ∷ 0 ∷ 0 ∷ 11 ∷ 0 ∷ 0 ∷ 0 ∷ 4 ∷ 0 ∷ 0 ∷ 0 ∷ [])
    ∷ []
unfolding sample_result write_result_outcome write_result_served write_result_refusal first some rising written_result score_bytes packed_rows packed_bytes packed
outcomes = refl

-- ---- read
-- records of which more and more is right: 13, 14, 13, 1, 4 (no row, 33 rows), 13, 22 (rising, a frame number 0, a ceiling equal to the
-- first score, one below it)
unfoldable pub damaged : List (List ℕ)
damaged =
    []
    ∷ (4 ∷ 11 ∷ [])
    ∷ (3 ∷ 11 ∷ [])
    ∷ (3 ∷ 11 ∷ 0 ∷ [])
    ∷ (3 ∷ 2 ∷ 0 ∷ [])
    ∷ (3 ∷ 2 ∷ 33 ∷ [])
    ∷ (3 ∷ 2 ∷ 1 ∷ [])
    ∷ (0 ∷ 2 ∷ 2 ∷ 1 ∷ 0 ∷ 0 ∷ 0 ∷ 2 ∷ 0 ∷ 0 ∷ 0 ∷ 16 ∷ 16 ∷ [])
    ∷ (1 ∷ 2 ∷ 1 ∷ 0 ∷ 0 ∷ 0 ∷ 0 ∷ 2 ∷ 0 ∷ 0 ∷ 0 ∷ 16 ∷ [])
    ∷ (2 ∷ 2 ∷ 1 ∷ 2 ∷ 0 ∷ 0 ∷ 0 ∷ 2 ∷ 0 ∷ 0 ∷ 0 ∷ 16 ∷ [])
    ∷ (2 ∷ 2 ∷ 1 ∷ 255 ∷ 255 ∷ 255 ∷ 255 ∷ 2 ∷ 0 ∷ 0 ∷ 0 ∷ 16 ∷ [])
    ∷ []

-- lent nothing, both readers find these first
pub damaged_in_order : map (λ (s : List ℕ). customer_refusal s 0 0) damaged ≡ 13 ∷ 14 ∷ 13 ∷ 1 ∷ 4 ∷ 4 ∷ 13 ∷ 22 ∷ 22 ∷ 22 ∷ 22 ∷ []
unfolding damaged customer_refusal scores_from first rising
damaged_in_order = refl

pub damaged_for_both : map (λ (s : List ℕ). operator_refusal s 0) damaged ≡ map (λ (s : List ℕ). customer_refusal s 0 0) damaged
unfolding damaged operator_refusal customer_refusal scores_from first rising
damaged_for_both = refl

-- the sample; then with a packed bit past n in its last byte: 10 comes before 21, and the operator is told nothing of it
unfoldable pub past_sample : List ℕ
past_sample = 0 ∷ 2 ∷ 2 ∷ 13 ∷ 0 ∷ 0 ∷ 0 ∷ 11 ∷ 0 ∷ 0 ∷ 0 ∷ 4 ∷ 16 ∷ []

pub customer_sample : customer_outcome sample_bytes (replicate 3 (pos 9)) (replicate 9 9)
    ≡ customer_reading (result_says 2 2 0 (pos 13)) (pos 13 ∷ pos 11 ∷ pos 0 ∷ []) (0 ∷ 0 ∷ 1 ∷ 0 ∷ 0 ∷ 0 ∷ 0 ∷ 0 ∷ 0 ∷ [])
unfolding sample_bytes customer_outcome customer_served customer_refusal first some rising scores_from rows_from some_past past_end unpacked bits_of
customer_sample = refl

pub customer_past : map (customer_outcome past_sample (replicate 2 (pos 9))) (replicate 7 9 ∷ replicate 8 9 ∷ [])
    ≡ customer_reading (refused_result 10) (replicate 2 (pos 9)) (replicate 7 9)
    ∷ customer_reading (refused_result 21) (replicate 2 (pos 9)) (replicate 8 9)
    ∷ []
unfolding past_sample customer_outcome customer_served customer_refusal first some rising scores_from rows_from some_past past_end unpacked bits_of
customer_past = refl

pub operator_sample : map (λ (s : List ℕ). operator_outcome s (replicate 3 (pos 9))) (sample_bytes ∷ past_sample ∷ [])
    ≡ replicate 2 (operator_reading (result_says 2 2 0 (pos 13)) (pos 13 ∷ pos 11 ∷ pos 0 ∷ []))
unfolding sample_bytes past_sample operator_outcome operator_served operator_refusal first some rising scores_from some_past past_end unpacked bits_of
operator_sample = refl

pub operator_room : operator_outcome sample_bytes (replicate 1 (pos 9)) ≡ operator_reading (refused_result 10) (replicate 1 (pos 9))
unfolding sample_bytes operator_outcome operator_served operator_refusal first rising scores_from
operator_room = refl
