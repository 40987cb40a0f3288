-- What the reader's answers mean: the values and the number that 01 gives for each case.
use Rattle.std.specs.Prelude.{cond, List, ℕ, ℤ, Result, Ok, Err}
use Rattle.spec.specs.Record.{exponent, is_arikan, list_size, stop_position, frame_number, pair_count}
use Rattle.spec.specs.Outcome as spec
use Rattle.job.specs.declared.Job.{Job}
use Rattle.refusals.specs.declared.Refusal.{Refusal}
use Rattle.refusals.specs.Number.{number_of}
use Rattle.job.specs.declared.host.JobFields.{JobFields}

abbrev pub said : Job → spec.Job
said j = spec.job j.m j.arikan j.list_size j.stop j.frame j.pairs

abbrev pub job_of : Result Job Refusal → spec.Job
job_of (Ok j) = said j
job_of (Err e) = spec.refused_job (number_of e)

-- the fields of a record
abbrev pub job_in : List ℕ → spec.Job
job_in s = spec.job (exponent s) (is_arikan s) (list_size s) (stop_position s) (frame_number s) (pair_count s)

-- ---- for a host that has no enum: 0 and the fields, 1 for Arikan's transform, or the refusal number and 0 in each field
abbrev pub fields_of : spec.Job → JobFields
fields_of (spec.job m a l p f k) = record { refusal = 0; m = m; list_size = l; stop = p; frame = f; pairs = k; arikan = cond a 1 0 }
fields_of (spec.refused_job k) = record { refusal = k; m = 0; list_size = 0; stop = 0; frame = 0; pairs = 0; arikan = 0 }

pub record HostReading : Type 0 where
  pub answer : JobFields
  pub map : List ℕ
  pub soft : List ℤ
  pub pairs : List ℕ

abbrev pub host_reading : JobFields → List ℕ → List ℤ → List ℕ → HostReading
host_reading a map soft pairs = record { answer = a; map = map; soft = soft; pairs = pairs }

abbrev pub for_host : spec.Reading → HostReading
for_host o = host_reading (fields_of o.answer) o.map o.soft o.pairs
