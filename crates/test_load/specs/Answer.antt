-- What the answers of a test load mean: the length and the next state, or the number that 02 gives for each case.
use Rattle.std.specs.Prelude.{List, ℕ, Result, Ok, Err}
use Rattle.spec.specs.TestLoad as spec
use Rattle.refusals.specs.declared.Refusal.{Refusal}
use Rattle.refusals.specs.Number.{number_of}
use Rattle.test_load.specs.declared.Load.{Load}
use Rattle.test_load.specs.declared.host.LoadFields.{LoadFields}

abbrev pub load_of : Result Load Refusal → spec.Load
load_of (Ok x) = spec.loaded x.length x.state
load_of (Err e) = spec.refused_load (number_of e)

-- ---- for a host that has no enum: 0, the length and the next state, or the refusal number and 0 twice
abbrev pub host_load : spec.Load → LoadFields
host_load (spec.loaded k t) = record { refusal = 0; length = k; state = t }
host_load (spec.refused_load k) = record { refusal = k; length = 0; state = 0 }

pub record HostLoading : Type 0 where
  pub answer : LoadFields
  pub job : List ℕ
  pub payload : List ℕ

abbrev pub host_loading : LoadFields → List ℕ → List ℕ → HostLoading
host_loading a job payload = record { answer = a; job = job; payload = payload }

abbrev pub load_for_host : spec.Loading → HostLoading
load_for_host o = host_loading (host_load o.answer) o.job o.payload
