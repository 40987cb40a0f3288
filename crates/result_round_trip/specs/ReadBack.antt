-- What the writer writes both readers accept, and the customer reader gives everything back. No code is in scope: the theorems are over
-- the definitions.
use Rattle.std.specs.Prelude.{◌≡◌, false, ◌&&◌, eqb, drop, ℤ, pos}
use Rattle.std.proofs.Math.Path.{refl, sym, ap, ap₂}
use Rattle.std.proofs.Common.{◌∙◌, mul-le-mul, arith, le-ltb, ne_eqb, pow_mono}
use mathlib.Core.List.{List, [], ◌∷◌, ◌++◌, append_assoc}
use Prim.Native.Nat.{ℕ, zero, suc, ◌+◌, ◌*◌, ◌/◌, ◌%◌, ◌≤◌, ◌<◌}
use Rattle.std.proofs.Math.ListN.{length, length-append}
use Rattle.std.proofs.Math.Seq.{drop_at}
use Rattle.std.specs.Int.Signed.{le_z}
use Rattle.spec.specs.Code.{map_bytes}
use Rattle.spec.specs.Record.{fields, exponent, positions}
use Rattle.spec.specs.RecordOf.{Field, absent, present, low_first, field_bit, field_bytes, thirty_two_bits}
use Rattle.spec.specs.Outcome.{padded}
use Rattle.spec.specs.ResultRecord.{scores_from, first_score, rising, rows_from, some_past, row_count, packed_at, result_end, result_frame, result_scores, result_ceiling, packed_part, result_inputs, zero_frame, low_ceiling, customer_faults, result_says, operator_reading, operator_refusal, operator_served, operator_outcome, customer_reading, customer_refusal, customer_served, customer_outcome}
use Rattle.spec.specs.ResultWriter.{Result, result_of, packed_rows, score_bytes, size, frame_field, ceiling_field, head_bytes, written_result, write_result_refusal}
use Rattle.laws.specs.FirstFault.{none, later, is_first, inside, same}
use Rattle.laws.specs.ListCost.{All, none, more, all_append}
use Rattle.laws.specs.ResultReading.{operator_served_lem, customer_served_lem}
use Rattle.laws.specs.ResultWriting.{WritableResult, writes_result, length_score_bytes, length_result}
use Rattle.laws.specs.WrittenForm.{value_back, field_bit_lem}
use Rattle.result_round_trip.specs.FourBytes.{Wide, Byte, bits_wide, first_wide, scores_back}
use Rattle.result_round_trip.specs.PackedBits.{rows_back, rows_clean, rows_bytes}
use Rattle.result_round_trip.specs.WrittenHead.{stands_small, frame_not_zero, signed_or, ceiling_said, ceiling_not_low, Headed, headed}
use Rattle.result_round_trip.specs.Operator.{customer_then_operator}

-- numbers of 32 bits, as arguments and slices hold them
pub record Fits (r : Result) : Type 0 where
  pub frame : r.frame < 4294967296
  pub ceiling : Wide r.ceiling
  pub scores : All Wide r.scores

-- ---- the whole record
module _ (r : Result) (w : WritableResult r) (f : Fits r) where
  abbrev s : List ℕ
  s = written_result r

  abbrev head : ℤ
  head = first_score r.scores

  abbrev rows : List ℕ
  rows = packed_rows (size r) r.rows r.inputs

  head_of_lem : Headed (frame_field r) (ceiling_field r) (length (head_bytes r)) s
  unfolding written_result
  head_of_lem =
      headed r.m r.rows (frame_field r) (ceiling_field r) (score_bytes r.scores ++ rows) (stands_small 0 r.frame f.frame)
      (stands_small (thirty_two_bits head) (thirty_two_bits r.ceiling) (bits_wide r.ceiling f.ceiling))

  m_is : exponent s ≡ r.m
  unfolding written_result
  m_is = refl

  rows_are : row_count s ≡ r.rows
  unfolding written_result
  rows_are = refl

  frame_is : result_frame s ≡ r.frame
  frame_is = head_of_lem.frame_is ∙ value_back 0 r.frame

  scores_are : result_scores s ≡ r.scores
  unfolding written_result
  scores_are = ap₂ (scores_from s) (sym head_of_lem.ends_at) (sym w.scores_long) ∙ scores_back (head_bytes r) r.scores rows f.scores

  ceiling_is : result_ceiling s ≡ r.ceiling
  ceiling_is =
      head_of_lem.ceiling_is (first_score (result_scores s))
      ∙ ap (λ (ys : List ℤ). signed_or (first_score ys) (ceiling_field r)) scores_are
      ∙ ceiling_said head r.ceiling (first_wide f.scores) f.ceiling

  frame_shown : zero_frame s ≡ false
  frame_shown = ap₂ (λ (b x : ℕ). eqb b 1 && eqb x 0) head_of_lem.bit0 frame_is ∙ frame_not_zero r.frame

  ceiling_shown : low_ceiling s ≡ false
  ceiling_shown =
      ap₂ (λ (b : ℕ) (z : ℤ). eqb b 1 && le_z z (first_score (result_scores s))) head_of_lem.bit1 ceiling_is
      ∙ ap (λ (ys : List ℤ). eqb (field_bit (ceiling_field r)) 1 && le_z r.ceiling (first_score ys)) scores_are
      ∙ ceiling_not_low head r.ceiling w.not_below

  -- where its packed rows begin, and where it ends
  packed_is : packed_part s ≡ rows
  unfolding written_result
  packed_is =
      let ahead : List ℕ = head_bytes r ++ score_bytes r.scores in
      let place : length ahead ≡ packed_at s
      = omega (arith, length-append (head_bytes r) (score_bytes r.scores), length_score_bytes r.scores, head_of_lem.ends_at, w.scores_long) in
      ap (drop (packed_at s)) (sym (append_assoc (head_bytes r) (score_bytes r.scores) rows)) ∙ drop_at ahead rows (packed_at s) place

  whole : length s ≡ result_end s
  unfolding written_result
  whole = omega (arith, length_result r w.scores_long, head_of_lem.bit0, head_of_lem.bit1)

  inputs_are : result_inputs s ≡ r.inputs
  unfolding written_result
  inputs_are = ap (rows_from (size r) r.rows) packed_is ∙ rows_back (size r) r.rows r.inputs w.bits w.inputs_long

  clean : some_past (positions s) (row_count s) (packed_part s) ≡ false
  unfolding written_result
  clean = ap (some_past (size r) r.rows) packed_is ∙ rows_clean (size r) r.rows r.inputs w.bits w.inputs_long

  -- nothing is wrong with it
  accepted : (scores inputs : ℕ) → r.rows ≤ scores → r.rows * size r ≤ inputs → 0 ≡ customer_refusal s scores inputs
  unfolding customer_refusal written_result
  accepted scores inputs hs hi =
      let long : 3 ≤ length s = omega (arith, whole) in
      is_first (customer_faults s scores inputs) 0
      (later (ne_eqb (length s) 0 (λ q. omega arith))
      (later (le-ltb 3 (fields s) head_of_lem.known)
      (later (le-ltb (length s) 3 long)
      (later (inside 2 10 r.m w.low w.high)
      (later (inside 1 32 r.rows w.some_rows w.few_rows)
      (later (same (length s) (result_end s) whole)
      (later (ap rising scores_are ∙ w.falling)
      (later frame_shown
      (later ceiling_shown
      (later (le-ltb scores r.rows hs)
      (later (le-ltb inputs (r.rows * size r) hi)
      (later clean
      none))))))))))))

-- all that is read from a record
abbrev pub read_from : List ℕ → Result
read_from s = result_of (exponent s) (row_count s) (result_frame s) (result_ceiling s) (result_scores s) (result_inputs s)

same_result : {m m' k k' x x' : ℕ} {z z' : ℤ} {ys ys' : List ℤ} {u u' : List ℕ} → m ≡ m' → k ≡ k' → x ≡ x' → z ≡ z' → ys ≡ ys' → u ≡ u'
    → result_of m k x z ys u ≡ result_of m' k' x' z' ys' u'
same_result a b c d e g = rw (a, b, c, d, e, g)

-- ---- the theorems: r is any result of numbers of 32 bits that the writer accepts, in an output of any length
module _ (r : Result) (f : Fits r) (lent : ℕ) (e : 0 ≡ write_result_refusal r lent) where
  abbrev ok : WritableResult r
  ok = (writes_result r lent e).0

  -- what was written says the result
  pub result_back : read_from (written_result r) ≡ r
  result_back = same_result (m_is r ok f) (rows_are r ok f) (frame_is r ok f) (ceiling_is r ok f) (scores_are r ok f) (inputs_are r ok f)

  -- the customer reader accepts it with room for the scores and the rows, the operator reader with room for the scores
  pub written_accepted_customer : (scores inputs : ℕ) → r.rows ≤ scores → r.rows * size r ≤ inputs
      → 0 ≡ customer_refusal (written_result r) scores inputs
  written_accepted_customer = accepted r ok f

  pub written_accepted_operator : (scores : ℕ) → r.rows ≤ scores → 0 ≡ operator_refusal (written_result r) scores
  written_accepted_operator scores hs =
      customer_then_operator (written_result r) scores (r.rows * size r) (written_accepted_customer scores (r.rows * size r) hs (omega arith))

  -- the customer reader gives everything back, and 0 behind it
  pub customer_reads_back : (scores : List ℤ) (inputs : List ℕ) → r.rows ≤ length scores → r.rows * size r ≤ length inputs
      → customer_outcome (written_result r) scores inputs
      ≡ customer_reading
      (result_says r.m r.rows r.frame r.ceiling)
      (padded (pos 0) (length scores) r.scores)
      (padded 0 (length inputs) r.inputs)
  unfolding customer_served
  customer_reads_back scores inputs hs hi =
      sym (customer_served_lem (written_result r) scores inputs (written_accepted_customer (length scores) (length inputs) hs hi))
      ∙ ap (λ (x : Result). customer_reading
      (result_says x.m x.rows x.frame x.ceiling)
      (padded (pos 0) (length scores) x.scores)
      (padded 0 (length inputs) x.inputs)) result_back

  -- and the operator reader all but the rows
  pub operator_reads_back : (scores : List ℤ) → r.rows ≤ length scores
      → operator_outcome (written_result r) scores
      ≡ operator_reading (result_says r.m r.rows r.frame r.ceiling) (padded (pos 0) (length scores) r.scores)
  unfolding operator_served
  operator_reads_back scores hs =
      sym (operator_served_lem (written_result r) scores (written_accepted_operator (length scores) hs))
      ∙ ap (λ (x : Result). operator_reading
      (result_says x.m x.rows x.frame x.ceiling)
      (padded (pos 0) (length scores) x.scores)) result_back

-- ---- what is written is bytes, as a slice holds them, and 4,235 of them are enough for any result
low_bytes : (k x : ℕ) → All Byte (low_first k x)
low_bytes zero x = none
low_bytes (suc k) x = more {x = x % 256} (omega arith) (low_bytes k (x / 256))

field_bytes_lem : (f : Field) → All Byte (field_bytes 4 f)
field_bytes_lem absent = none
field_bytes_lem (present x) = low_bytes 4 x

score_bytes_lem : (ys : List ℤ) → All Byte (score_bytes ys)
unfolding score_bytes
score_bytes_lem [] = none
score_bytes_lem (y ∷ ys) = all_append (low_bytes 4 (thirty_two_bits y)) (score_bytes_lem ys)

module _ (r : Result) (lent : ℕ) (e : 0 ≡ write_result_refusal r lent) where
  pub written_bytes : All Byte (written_result r)
  unfolding written_result
  written_bytes =
      let w = (writes_result r lent e).0 in
      let b : Byte (field_bit (frame_field r) + 2 * field_bit (ceiling_field r)) = omega (arith, field_bit_lem (frame_field r), field_bit_lem (ceiling_field r)) in
      let m : Byte r.m = omega (arith, w.high) in
      let k : Byte r.rows = omega (arith, w.few_rows) in
      let fields : All Byte (field_bytes 4 (frame_field r) ++ field_bytes 4 (ceiling_field r))
      = all_append (field_bytes_lem (frame_field r)) (field_bytes_lem (ceiling_field r)) in
      all_append (more b (more m (more k fields))) (all_append (score_bytes_lem r.scores) (rows_bytes (size r) r.rows r.inputs w.bits))

  pub written_at_most : length (written_result r) ≤ 4235
  written_at_most =
      let w = (writes_result r lent e).0 in
      let n : size r ≤ 1024 = pow_mono {i = r.m} {j = 10} w.high in
      let b : map_bytes (size r) ≤ 128 = omega arith in
      let k : r.rows * map_bytes (size r) ≤ 32 * 128 = mul-le-mul w.few_rows b in
      omega (arith, length_result r w.scores_long, field_bit_lem (frame_field r), field_bit_lem (ceiling_field r), w.few_rows)
