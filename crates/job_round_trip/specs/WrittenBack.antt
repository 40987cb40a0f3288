-- The reader gives back every field of what was written: 02, wish 2. No code is in scope: the theorems are over the definitions.
use Rattle.std.specs.Prelude.{◌≡◌, refl, List, ℕ, ◌-◌, ◌≤◌, ◌<◌, length, take, replicate, ℤ, pos}
use Rattle.std.proofs.Common.{sym, ap₂, subst, ◌∙◌, arith}
use Rattle.std.proofs.Math.Path.{ap}
use Rattle.std.proofs.Math.Seq.{take-append_seam}
use Rattle.spec.specs.Code.{size, map_bytes, pairs_in}
use Rattle.spec.specs.Score.{taken}
use Rattle.spec.specs.Outcome.{padded, job, reading, read_outcome, long, Writing, writing}
use Rattle.spec.specs.JobWriter.{Fields, leanest, written_record, write_served, write_outcome}
use Rattle.laws.specs.Accepted.{Accepted}
use Rattle.laws.specs.Taken.{length_taken, taken_twice, taken_range}
use Rattle.laws.specs.WriteCall.{Writable, writes, served_of}
use Rattle.laws.specs.WrittenForm.{value_back, pairs_back, code_back}
use Rattle.job.specs.Calls.{same_job, same_reading}
use Rattle.job.specs.ReadBack.{Valid, read_back}

-- what is written of fields that are not refused may be said by a record
pub valid_of : (f : Fields) → Writable f → f.frame < 4294967296 → Valid (leanest f)
valid_of f w h =
    let n : ℕ = size f.code in
    record {
      accepts = subst Accepted (sym (code_back f)) w.accepts;
      some_rows = omega (arith, value_back 4 f.list_size, w.some_rows);
      few_rows = omega (arith, value_back 4 f.list_size, w.few_rows);
      stops = omega (arith, value_back n f.stop, w.stops);
      counted = omega (arith, value_back 0 f.frame);
      values = length_taken f.soft ∙ w.values;
      in_range = taken_range f.soft ∙ w.in_range;
    }

-- ---- of a record: with room for the map, the values and the pairs
pub written_back : (f : Fields) → Writable f → f.frame < 4294967296 → (maps : List ℕ) (softs : List ℤ) (pairs : List ℕ)
    → map_bytes (size f.code) ≤ length maps → size f.code ≤ length softs → length f.code.pairs ≤ length pairs
    → read_outcome (written_record f) maps softs pairs
    ≡ reading
    (job f.code.m f.code.arikan f.list_size f.stop f.frame (length (pairs_in f.code.pairs)))
    (padded 0 (length maps) f.code.map)
    (padded (pos 0) (length softs) (taken f.soft))
    (padded 0 (length pairs) f.code.pairs)
unfolding written_record
written_back f w h maps softs pairs hm hs hp =
    let q = pairs_back f.code.pairs in
    read_back (leanest f) (valid_of f w h) maps softs pairs hm hs (omega (arith, ap length q))
    ∙ same_reading
    (same_job refl refl (value_back 4 f.list_size) (value_back (size f.code) f.stop) (value_back 0 f.frame)
    (ap (λ (s : List ℕ). length (pairs_in s)) q))
    refl (ap (padded (pos 0) (length softs)) (taken_twice f.soft)) (ap (padded 0 (length pairs)) q)

-- ---- of a call that gave the length k: the first k bytes of its output are the record, and 0 is behind them
module _ (f : Fields) (out : List ℕ) {k : ℕ} {o : List ℕ} (e : write_outcome f out ≡ writing (long k) o) where
  pub call_accepted : Writable f × (length (written_record f) ≤ length out)
  call_accepted = writes f (length out) (served_of f out e).0

  pub length_said : length (written_record f) ≡ k
  unfolding write_served
  length_said =
      let q : long (length (written_record f)) ≡ long k = ap (λ (w : Writing). w.answer) (served_of f out e).1 in
      cc

  pub output_is : padded 0 (length out) (written_record f) ≡ o
  unfolding write_served
  output_is = ap (λ (w : Writing). w.output) (served_of f out e).1

  pub record_said : take k o ≡ written_record f
  record_said =
      ap₂ take (sym length_said) (sym output_is)
      ∙ take-append_seam (written_record f) (replicate (length out - length (written_record f)) 0)

  -- the theorem: the reader gives back every field, −2,047 for −2,048
  pub call_read_back : f.frame < 4294967296 → (maps : List ℕ) (softs : List ℤ) (pairs : List ℕ)
      → map_bytes (size f.code) ≤ length maps → size f.code ≤ length softs → length f.code.pairs ≤ length pairs
      → read_outcome (take k o) maps softs pairs
      ≡ reading
      (job f.code.m f.code.arikan f.list_size f.stop f.frame (length (pairs_in f.code.pairs)))
      (padded 0 (length maps) f.code.map)
      (padded (pos 0) (length softs) (taken f.soft))
      (padded 0 (length pairs) f.code.pairs)
  call_read_back h maps softs pairs hm hs hp =
      ap (λ (s : List ℕ). read_outcome s maps softs pairs) record_said ∙ written_back f call_accepted.0 h maps softs pairs hm hs hp
