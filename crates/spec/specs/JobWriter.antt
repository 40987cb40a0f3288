-- The writer of job records: 02, wish 2. What it writes of the fields of a job, what it is refused for, and what a call comes to.
use Rattle.std.specs.Prelude.{cond, List, [], ◌∷◌, ◌++◌, ℕ, eqb, length, ℤ}
use Rattle.spec.specs.Code.{Code, size}
use Rattle.spec.specs.Score.{taken}
use Rattle.spec.specs.Faults.{Fault, first, settled}
use Rattle.spec.specs.Refusals.{code_faults, run_faults, room_fault}
use Rattle.spec.specs.RecordOf.{Field, absent, present, PairField, unannounced, announced, Content, record_of}
use Rattle.spec.specs.Outcome.{padded, long, refused_length, Writing, writing}

-- the fields of a job
pub record Fields : Type 0 where
  pub code : Code
  pub list_size : ℕ
  pub stop : ℕ
  pub frame : ℕ
  pub soft : List ℤ

abbrev pub fields_of : Code → ℕ → ℕ → ℕ → List ℤ → Fields
fields_of c l p frame soft = record { code = c; list_size = l; stop = p; frame = frame; soft = soft }

-- a field is left out where its value is the one that absence means, and the pairs where there are none
abbrev pub unless : ℕ → ℕ → Field
unless absence x = cond (eqb x absence) absent (present x)

abbrev pub unless_none : List ℕ → PairField
unless_none [] = unannounced
unless_none (x ∷ s) = announced (x ∷ s)

-- so list size 4, stop position n, frame 0 and no pairs are left out; −2,048 is written as −2,047
abbrev pub leanest : Fields → Content
leanest f = record {
  m = f.code.m;
  arikan = f.code.arikan;
  size = unless 4 f.list_size;
  stop = unless (size f.code) f.stop;
  frame = unless 0 f.frame;
  map = f.code.map;
  pairs = unless_none f.code.pairs;
  soft = taken f.soft;
}

unfoldable pub written_record : Fields → List ℕ
written_record f = record_of (leanest f)

-- 1, 2, 3, 15, 4, 5, 6, 7 and then 10: the output has `room` bytes
abbrev pub write_faults : Fields → ℕ → List Fault
write_faults f room =
    code_faults f.code
    ++ (run_faults (size f.code) f.list_size f.stop f.soft ++ (room_fault (length (written_record f)) room ∷ []))

unfoldable pub write_refusal : Fields → ℕ → ℕ
write_refusal f room = first (write_faults f room)

-- the record at the front of the output, and 0 behind it
unfoldable pub write_served : Fields → ℕ → Writing
write_served f room = writing (long (length (written_record f))) (padded 0 room (written_record f))

unfoldable pub write_outcome : Fields → List ℕ → Writing
write_outcome f out = settled (write_refusal f (length out)) (λ k. writing (refused_length k) out) (write_served f (length out))
