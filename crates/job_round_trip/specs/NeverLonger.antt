-- The fields of a record that is read, as the reader hands them out: the writer serves them, and what it writes of them is never
-- longer than the record. No code is in scope: the theorems are over the definitions.
use Rattle.std.specs.Prelude.{◌≡◌, refl, Bool, true, false, cond, List, [], ◌∷◌, ℕ, zero, suc, ◌*◌, ◌/◌, ◌%◌, ◌≤◌, length, take, drop, eqb}
use Rattle.std.proofs.Common.{ap, arith, eq-eqb}
use Rattle.spec.specs.Score.{taken}
use Rattle.spec.specs.Record.{byte_at, two_at, four_at, if_present, stop_at, frame_at, fields, positions, list_size, stop_position, frame_number, pairs_at, pair_count, record_pairs, record_code, soft_at, record_soft}
use Rattle.spec.specs.RecordOf.{absent, present, field_bit, pair_bit}
use Rattle.spec.specs.Outcome.{read_refusal}
use Rattle.spec.specs.JobWriter.{Fields, fields_of, unless, unless_none, written_record, write_refusal}
use Rattle.laws.specs.WriteCall.{Writable, writable_of, write_accepted}
use Rattle.laws.specs.WrittenForm.{written_length}
use Rattle.job_fields.specs.Laid.{Shaped, length_map, length_pairs}
use Rattle.job.specs.SoftValues.{length_soft}
use Rattle.job.specs.Calls.{accepted_record}
use Rattle.job.specs.HandedOut.{block_accepted}

-- the fields that a record says, as the reader hands them out
abbrev pub fields_in : List ℕ → Fields
fields_in s = fields_of (record_code s) (list_size s) (stop_position s) (frame_number s) (taken (record_soft s))

-- ---- each field that the written form has stands in the record
lean_field : (b value absence : ℕ) → field_bit (unless absence (if_present b value absence)) ≤ b
lean_field zero value absence = rw (eq-eqb absence absence refl) (omega arith)
lean_field (suc b) value absence = go (eqb value absence)
  where
    go : (t : Bool) → field_bit (cond t absent (present value)) ≤ suc b
    go true = omega arith
    go false = omega arith

lean_pairs : (s : List ℕ) → pair_bit (unless_none (record_pairs s)) ≤ fields s / 8 % 2
lean_pairs s = go (fields s / 8 % 2) refl
  where
    none_said : (q : List ℕ) → q ≡ [] → pair_bit (unless_none q) ≤ 0
    none_said q e = rw e (omega arith)

    at_most : (q : List ℕ) (b : ℕ) → pair_bit (unless_none q) ≤ suc b
    at_most [] b = omega arith
    at_most (x ∷ q) b = omega arith

    go : (b : ℕ) → fields s / 8 % 2 ≡ b → pair_bit (unless_none (record_pairs s)) ≤ b
    go zero e =
        let c : pair_count s ≡ 0 = rw e in
        none_said (record_pairs s) (ap (λ (k : ℕ). take (4 * k) (drop (pairs_at s) s)) c)
    go (suc b) e = at_most (record_pairs s) b

form_no_longer : (s : List ℕ) → Shaped s → length (written_record (fields_in s)) ≤ length s
form_no_longer s w =
    let f : Fields = fields_in s in
    omega (
      arith,
      written_length f,
      lean_field (fields s % 2) (byte_at s 2) 4,
      lean_field (fields s / 2 % 2) (two_at s (stop_at (fields s))) (positions s),
      lean_field (fields s / 4 % 2) (four_at s (frame_at (fields s))) 0,
      lean_pairs s,
      length_map w,
      length_pairs w,
      length_soft s (soft_at s) (positions s),
      w.whole,
    )

-- ---- the theorems, of a record that is read into slices of these lengths
module _ (s : List ℕ) (maps softs pairs : ℕ) (e : 0 ≡ read_refusal s maps softs pairs) where
  pub never_longer : length (written_record (fields_in s)) ≤ length s
  never_longer = form_no_longer s (accepted_record s maps softs pairs e).shaped

  pub read_writable : Writable (fields_in s)
  read_writable = let a = block_accepted s maps softs pairs e in writable_of (fields_in s) a.0 a.1

  -- in an output as long as the record
  pub writer_serves : 0 ≡ write_refusal (fields_in s) (length s)
  writer_serves = write_accepted (fields_in s) (length s) read_writable never_longer
