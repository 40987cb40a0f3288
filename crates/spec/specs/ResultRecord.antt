-- The result record, as a function on its bytes, what its readers are refused for, and what their calls come to: 02, wish 11. Low byte
-- first throughout; scores and ceiling are signed.
use Rattle.std.specs.Prelude.{◌≡◌, Bool, false, not, ◌&&◌, ◌||◌, List, [], ◌∷◌, ◌++◌, ℕ, zero, suc, ◌+◌, ◌*◌, ◌/◌, ◌%◌, ◌<◌, length, take, drop, get_or, ltb, eqb, ℤ, pos}
use Rattle.std.specs.Int.Signed.{lt_z, le_z}
use Rattle.spec.specs.Bits.{unpacked}
use Rattle.spec.specs.Code.{map_bytes}
use Rattle.spec.specs.Faults.{Fault, fault, first, settled, outside}
use Rattle.spec.specs.Refusals.{past_end, room_fault}
use Rattle.spec.specs.Record.{byte_at, four_at, signed32, if_present, fields, exponent, positions}
use Rattle.spec.specs.Outcome.{padded}

-- ---- scores: n signed numbers of four bytes from a place, the first of some, and whether one stands above the one before it
unfoldable pub scores_from : List ℕ → ℕ → ℕ → List ℤ
scores_from s at zero = []
scores_from s at (suc n) = signed32 (four_at s at) ∷ scores_from s (at + 4) n

abbrev pub first_score : List ℤ → ℤ
first_score ys = get_or ys 0 (pos 0)

unfoldable pub rising : List ℤ → Bool
rising [] = false
rising (y ∷ []) = false
rising (y ∷ z ∷ ys) = lt_z y z || rising (z ∷ ys)

-- ---- k rows of n bits, each packed by itself as a frozen map is: their bits, and whether one has a bit set at or past n
unfoldable pub rows_from : ℕ → ℕ → List ℕ → List ℕ
rows_from n zero s = []
rows_from n (suc k) s = take n (unpacked (take (map_bytes n) s)) ++ rows_from n k (drop (map_bytes n) s)

unfoldable pub some_past : ℕ → ℕ → List ℕ → Bool
some_past n zero s = false
some_past n (suc k) s = past_end n (take (map_bytes n) s) || some_past n k (drop (map_bytes n) s)

-- ---- where each part begins, by byte 0, the map of fields: bit 0 frame number, bit 1 ceiling. m and row count are bytes 1 and 2.
abbrev pub ceiling_at : ℕ → ℕ
ceiling_at fields = 3 + 4 * (fields % 2)

abbrev pub scores_at : ℕ → ℕ
scores_at fields = ceiling_at fields + 4 * (fields / 2 % 2)

module _ (s : List ℕ) where
  abbrev pub row_count : ℕ
  row_count = byte_at s 2

  -- where the packed rows begin, and where the record ends
  abbrev pub packed_at : ℕ
  packed_at = scores_at (fields s) + 4 * row_count

  abbrev pub result_end : ℕ
  result_end = packed_at + row_count * map_bytes (positions s)

  -- the frame number is 0 and the ceiling is the first score where they are left out
  abbrev pub result_frame : ℕ
  result_frame = if_present (fields s % 2) (four_at s 3) 0

  abbrev pub result_scores : List ℤ
  result_scores = scores_from s (scores_at (fields s)) row_count

  abbrev pub result_ceiling : ℤ
  result_ceiling = if_present (fields s / 2 % 2) (signed32 (four_at s (ceiling_at (fields s)))) (first_score result_scores)

  abbrev pub packed_part : List ℕ
  packed_part = drop packed_at s

  abbrev pub result_inputs : List ℕ
  result_inputs = rows_from (positions s) row_count packed_part

  -- both readers: 13 if empty, 14, 13 under three bytes, 1, 4, which the first three bytes decide, and then 13 if not exactly as long as
  -- its fields need
  abbrev pub result_head_faults : List Fault
  result_head_faults =
      fault 13 (eqb (length s) 0)
      ∷ fault 14 (ltb 3 (fields s))
      ∷ fault 13 (ltb (length s) 3)
      ∷ fault 1 (outside 2 10 (exponent s))
      ∷ fault 4 (outside 1 32 row_count)
      ∷ []

  abbrev pub result_length_faults : List Fault
  result_length_faults = fault 13 (not (eqb (length s) result_end)) ∷ []

  abbrev pub result_shape_faults : List Fault
  result_shape_faults = result_head_faults ++ result_length_faults

  -- then 22: rising scores, a present frame number 0, a present ceiling that is not above the first score
  abbrev pub zero_frame : Bool
  zero_frame = eqb (fields s % 2) 1 && eqb result_frame 0

  abbrev pub low_ceiling : Bool
  low_ceiling = eqb (fields s / 2 % 2) 1 && le_z result_ceiling (first_score result_scores)

  abbrev pub result_value_faults : List Fault
  result_value_faults = fault 22 (rising result_scores) ∷ fault 22 zero_frame ∷ fault 22 low_ceiling ∷ []

  -- then 10, by how many places are lent, and for the customer 21, a packed bit past n
  abbrev pub operator_faults : ℕ → List Fault
  operator_faults scores = result_shape_faults ++ (result_value_faults ++ (room_fault row_count scores ∷ []))

  abbrev pub customer_faults : ℕ → ℕ → List Fault
  customer_faults scores inputs =
      result_shape_faults
      ++ (result_value_faults
      ++ (room_fault row_count scores
      ∷ room_fault (row_count * positions s) inputs
      ∷ fault 21 (some_past (positions s) row_count packed_part)
      ∷ []))

-- ---- what a reader answers: m, row count, frame number and ceiling, or the refusal number
pub data ResultAnswer : Type 0 where
  result_says : ℕ → ℕ → ℕ → ℤ → ResultAnswer
  refused_result : ℕ → ResultAnswer

abbrev pub said_by : List ℕ → ResultAnswer
said_by s = result_says (exponent s) (row_count s) (result_frame s) (result_ceiling s)

-- ---- the operator reader: the answer, and the lent scores
pub record OperatorReading : Type 0 where
  pub answer : ResultAnswer
  pub scores : List ℤ

abbrev pub operator_reading : ResultAnswer → List ℤ → OperatorReading
operator_reading a scores = record { answer = a; scores = scores }

unfoldable pub operator_refusal : List ℕ → ℕ → ℕ
operator_refusal s scores = first (operator_faults s scores)

unfoldable pub operator_served : List ℕ → ℕ → OperatorReading
operator_served s scores = operator_reading (said_by s) (padded (pos 0) scores (result_scores s))

unfoldable pub operator_outcome : List ℕ → List ℤ → OperatorReading
operator_outcome s scores =
    settled (operator_refusal s (length scores)) (λ k. operator_reading (refused_result k) scores) (operator_served s (length scores))

-- ---- the customer reader: the answer, the lent scores and the lent input rows
pub record CustomerReading : Type 0 where
  pub answer : ResultAnswer
  pub scores : List ℤ
  pub inputs : List ℕ

abbrev pub customer_reading : ResultAnswer → List ℤ → List ℕ → CustomerReading
customer_reading a scores inputs = record { answer = a; scores = scores; inputs = inputs }

unfoldable pub customer_refusal : List ℕ → ℕ → ℕ → ℕ
customer_refusal s scores inputs = first (customer_faults s scores inputs)

unfoldable pub customer_served : List ℕ → ℕ → ℕ → CustomerReading
customer_served s scores inputs =
    customer_reading (said_by s) (padded (pos 0) scores (result_scores s)) (padded 0 inputs (result_inputs s))

unfoldable pub customer_outcome : List ℕ → List ℤ → List ℕ → CustomerReading
customer_outcome s scores inputs =
    settled (customer_refusal s (length scores) (length inputs)) (λ k. customer_reading (refused_result k) scores inputs)
    (customer_served s (length scores) (length inputs))

-- ---- two records of equal length that differ only in packed bits: all bytes before the packed rows are the same
pub record OnlyPackedBitsDiffer (s s' : List ℕ) : Type 0 where
  pub as_long : length s ≡ length s'
  pub before : (i : ℕ) → i < packed_at s → byte_at s i ≡ byte_at s' i
