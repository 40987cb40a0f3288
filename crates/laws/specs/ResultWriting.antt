-- The call of the writer of result records, taken apart: what is known of a result that is not refused, how long its record is, and what
-- the call then comes to.
use Rattle.std.specs.Prelude.{◌≡◌, false, drop, take, ℤ}
use Rattle.std.proofs.Math.Path.{refl}
use Rattle.std.proofs.Common.{sym, ap, ap₂, ◌∙◌}
use mathlib.Core.List.{List, [], ◌∷◌, ◌++◌}
use Prim.Native.Nat.{ℕ, zero, suc, ◌+◌, ◌*◌, ◌≤◌, ◌<◌}
use native.Mathlib.Omega.{arith}
use borrow.Author.Tests.{ltb-false, le-ltb, lt-ltb}
use Rattle.std.proofs.Math.ListN.{length, length-append}
use Rattle.std.specs.Int.Signed.{lt_z}
use Rattle.spec.specs.Bits.{Bits}
use Rattle.spec.specs.Code.{map_bytes}
use Rattle.spec.specs.Faults.{Fault, fault, first, outside}
use Rattle.spec.specs.Refusals.{length_fault, bit_fault, room_fault}
use Rattle.spec.specs.RecordOf.{Field, absent, present, field_bit, field_bytes}
use Rattle.spec.specs.Outcome.{refused_length, writing}
use Rattle.spec.specs.ResultRecord.{first_score, rising, scores_at}
use Rattle.spec.specs.ResultWriter.{Result, size, frame_field, ceiling_field, head_bytes, packed_bytes, packed_rows, score_bytes, written_result, write_result_faults, write_result_refusal, write_result_served, write_result_outcome}
use Rattle.laws.specs.FirstFault.{First, none, here, later, is_first, of_first, Numbered, end, next, none_before, none_after, first_before, first_after, inside, inside_of, same, same_of, settled_refused, settled_served}
use Rattle.laws.specs.MapBits.{no_above, bits_not_above}
use Rattle.laws.specs.WrittenForm.{length_field}

-- a result that no condition applies to but the room
pub record WritableResult (r : Result) : Type 0 where
  pub low : 2 ≤ r.m
  pub high : r.m ≤ 10
  pub some_rows : 1 ≤ r.rows
  pub few_rows : r.rows ≤ 32
  pub inputs_long : length r.inputs ≡ r.rows * size r
  pub scores_long : length r.scores ≡ r.rows
  pub bits : Bits r.inputs
  pub falling : rising r.scores ≡ false
  pub not_below : lt_z r.ceiling (first_score r.scores) ≡ false

module _ (r : Result) where
  -- the conditions of what is given: of its lengths and bits, then of its values
  abbrev pub result_given_faults : List Fault
  result_given_faults =
      fault 1 (outside 2 10 r.m)
      ∷ fault 4 (outside 1 32 r.rows)
      ∷ length_fault (r.rows * size r) (length r.inputs)
      ∷ length_fault r.rows (length r.scores)
      ∷ bit_fault r.inputs
      ∷ []

  abbrev pub result_order_faults : List Fault
  result_order_faults = fault 22 (rising r.scores) ∷ fault 22 (lt_z r.ceiling (first_score r.scores)) ∷ []

  abbrev pub result_faults : List Fault
  result_faults = result_given_faults ++ result_order_faults

  abbrev pub result_given_numbers : Numbered result_given_faults
  result_given_numbers = next (next (next (next (next end))))

  abbrev pub result_numbers : Numbered result_faults
  result_numbers = next (next (next (next (next (next (next end))))))

  pub writable_of : First result_faults 0 → WritableResult r
  writable_of (later a (later b (later c (later d (later e (later f (later g none))))))) =
      let m = inside_of 2 10 r.m a in
      let k = inside_of 1 32 r.rows b in
      record {
        low = m.0;
        high = m.1;
        some_rows = k.0;
        few_rows = k.1;
        inputs_long = same_of (length r.inputs) (r.rows * size r) c;
        scores_long = same_of (length r.scores) r.rows d;
        bits = no_above r.inputs e;
        falling = f;
        not_below = g;
      }

  pub result_none : 0 ≡ first result_faults → WritableResult r
  result_none e = writable_of (of_first result_faults 0 e)

  -- and none of them applies to such a result
  pub no_result_fault : WritableResult r → 0 ≡ first result_faults
  no_result_fault w =
      is_first result_faults 0
      (later (inside 2 10 r.m w.low w.high)
      (later (inside 1 32 r.rows w.some_rows w.few_rows)
      (later (same (length r.inputs) (r.rows * size r) w.inputs_long)
      (later (same (length r.scores) r.rows w.scores_long)
      (later (bits_not_above w.bits)
      (later w.falling
      (later w.not_below
      none)))))))

  -- ---- the number: of what is given, and then 10
  pub result_refused : (room k : ℕ) → k ≡ first result_faults → (k ≡ 0 → ⊥) → k ≡ write_result_refusal r room
  unfolding write_result_refusal
  result_refused room k e n = first_before result_faults (room_fault (length (written_result r)) room ∷ []) k e n

  pub room_refused : (room : ℕ) → 0 ≡ first result_faults → room < length (written_result r) → 10 ≡ write_result_refusal r room
  unfolding write_result_refusal
  room_refused room e h =
      let last : List Fault = room_fault (length (written_result r)) room ∷ [] in
      first_after result_faults last 0 e result_numbers refl 10 (is_first last 10 (here (lt-ltb room (length (written_result r)) h)))

  pub result_accepted : (room : ℕ) → 0 ≡ first result_faults → length (written_result r) ≤ room → 0 ≡ write_result_refusal r room
  unfolding write_result_refusal
  result_accepted room e h =
      let last : List Fault = room_fault (length (written_result r)) room ∷ [] in
      first_after result_faults last 0 e result_numbers refl 0 (is_first last 0 (later (le-ltb room (length (written_result r)) h) none))

  pub writes_result : (room : ℕ) → 0 ≡ write_result_refusal r room → WritableResult r × (length (written_result r) ≤ room)
  unfolding write_result_refusal
  writes_result room e =
      let last : List Fault = room_fault (length (written_result r)) room ∷ [] in
      let all = of_first (write_result_faults r room) 0 e in
      (writable_of (none_before last result_numbers all), fits (none_after result_numbers all))
    where
      fits : First (room_fault (length (written_result r)) room ∷ []) 0 → length (written_result r) ≤ room
      fits (later d none) = ltb-false room (length (written_result r)) d

  -- ---- what the call comes to
  module _ (out : List ℕ) where
    pub write_result_refused : (k : ℕ) → k ≡ write_result_refusal r (length out) → (k ≡ 0 → ⊥) → writing (refused_length k) out ≡ write_result_outcome r out
    unfolding write_result_outcome
    write_result_refused k e n =
        settled_refused (λ k. writing (refused_length k) out) (write_result_served r (length out)) k (write_result_refusal r (length out)) e n

    pub write_result_served_lem : 0 ≡ write_result_refusal r (length out) → write_result_served r (length out) ≡ write_result_outcome r out
    unfolding write_result_outcome
    write_result_served_lem e =
        settled_served (λ k. writing (refused_length k) out) (write_result_served r (length out)) (write_result_refusal r (length out)) e

    -- where a condition applies, the answer is its number alone, and the output is as before
    pub writer_writes_nothing : (write_result_refusal r (length out) ≡ 0 → ⊥)
        → write_result_outcome r out ≡ writing (refused_length (write_result_refusal r (length out))) out
    writer_writes_nothing x = sym (write_result_refused (write_result_refusal r (length out)) refl x)

-- what an accepted call gives does not depend on what the output held
pub same_length_same_record : (r : Result) (out out' : List ℕ) → length out ≡ length out' → 0 ≡ write_result_refusal r (length out)
    → write_result_outcome r out ≡ write_result_outcome r out'
same_length_same_record r out out' h e =
    sym (write_result_served_lem r out e) ∙ ap (write_result_served r) h ∙ write_result_served_lem r out' (e ∙ ap (write_result_refusal r) h)

-- ---- how long a record is
-- where the scores begin, by the bits of the fields
pub scores_behind : (f g : Field) → scores_at (field_bit f + 2 * field_bit g) ≡ 3 + 4 * field_bit f + 4 * field_bit g
scores_behind absent absent = refl
scores_behind absent (present y) = refl
scores_behind (present x) absent = refl
scores_behind (present x) (present y) = refl

pub length_score_bytes : (ys : List ℤ) → length (score_bytes ys) ≡ 4 * length ys
unfolding score_bytes
length_score_bytes [] = refl
length_score_bytes (y ∷ ys) = omega (arith, length_score_bytes ys)

pub length_packed : (b : ℕ) (u : List ℕ) → length (packed_bytes b u) ≡ b
unfolding packed_bytes
length_packed zero u = refl
length_packed (suc b) u = ap suc (length_packed b (drop 8 u))

pub length_packed_rows : (n k : ℕ) (u : List ℕ) → length (packed_rows n k u) ≡ k * map_bytes n
unfolding packed_rows
length_packed_rows n zero u = omega arith
length_packed_rows n (suc k) u =
    length-append (packed_bytes (map_bytes n) (take n u)) (packed_rows n k (drop n u))
    ∙ ap₂ ◌+◌ (length_packed (map_bytes n) (take n u)) (length_packed_rows n k (drop n u))
    ∙ omega arith

module _ (r : Result) where
  pub length_head : length (head_bytes r) ≡ 3 + 4 * field_bit (frame_field r) + 4 * field_bit (ceiling_field r)
  length_head =
      omega (arith, length-append (field_bytes 4 (frame_field r)) (field_bytes 4 (ceiling_field r)), length_field 4 (frame_field r), length_field 4 (ceiling_field r))

  pub length_result : length r.scores ≡ r.rows
      → length (written_result r) ≡ 3 + 4 * field_bit (frame_field r) + 4 * field_bit (ceiling_field r) + 4 * r.rows + r.rows * map_bytes (size r)
  unfolding written_result
  length_result e =
      let rows : List ℕ = packed_rows (size r) r.rows r.inputs in
      omega (
        arith,
        length-append (head_bytes r) (score_bytes r.scores ++ rows),
        length-append (score_bytes r.scores) rows,
        length_score_bytes r.scores,
        length_packed_rows (size r) r.rows r.inputs,
        length_head,
      )
