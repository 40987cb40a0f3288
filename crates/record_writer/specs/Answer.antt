-- What a writer's answers mean: the length or the number that 02 gives for each case.
use Rattle.std.specs.Prelude.{List, ℕ, Result, Ok, Err}
use Rattle.spec.specs.Outcome as spec
use Rattle.refusals.specs.declared.Refusal.{Refusal}
use Rattle.refusals.specs.Number.{number_of}
use Rattle.record_writer.specs.declared.length.RecordLength.{RecordLength}

abbrev pub length_of : Result ℕ Refusal → spec.Length
length_of (Ok k) = spec.long k
length_of (Err e) = spec.refused_length (number_of e)

-- ---- for a host that has no enum: 0 and the length, or the refusal number and 0
abbrev pub host_length : spec.Length → RecordLength
host_length (spec.long k) = record { refusal = 0; length = k }
host_length (spec.refused_length k) = record { refusal = k; length = 0 }

pub record HostWriting : Type 0 where
  pub answer : RecordLength
  pub output : List ℕ

abbrev pub host_writing : RecordLength → List ℕ → HostWriting
host_writing a out = record { answer = a; output = out }

abbrev pub length_for_host : spec.Writing → HostWriting
length_for_host o = host_writing (host_length o.answer) o.output
