-- A block decoded from its record gives what the direct call gives. No code is in scope: the theorem is over the definitions.
use Rattle.std.specs.Prelude.{◌≡◌, Bool, List, ℕ, ◌<◌, take, ℤ}
use Rattle.std.proofs.Common.{ap, ◌∙◌}
use Rattle.spec.specs.Score.{taken}
use Rattle.spec.specs.Outcome.{Lent, job, reading, read_outcome, long, writing}
use Rattle.spec.specs.JobWriter.{Fields, written_record, write_outcome}
use Rattle.laws.specs.FullScale.{taken_alike}
use Rattle.laws.specs.Taken.{taken_twice}
use Rattle.job_round_trip.specs.WrittenBack.{call_accepted, record_said}
use Rattle.job_round_trip.specs.NeverLonger.{fields_in}
use Rattle.job_round_trip.specs.OneForm.{fields_back}
use Rattle.job_round_trip.specs.DecodedAlike.{decoded, decoded_from, read_decoded}

-- The theorem: f was written, and the reader gave fields of it. Decoded from these the block gives what the direct call with f gives: the
-- answer and all that is lent, refused or not.
pub decoded_alike : (f : Fields) (out : List ℕ) {k : ℕ} {o : List ℕ} → write_outcome f out ≡ writing (long k) o → f.frame < 4294967296
    → (maps : List ℕ) (softs : List ℤ) (pairs : List ℕ) {m l p fr q : ℕ} {a : Bool} {x z : List ℕ} {y : List ℤ}
    → read_outcome (take k o) maps softs pairs ≡ reading (job m a l p fr q) x y z → (t : Lent) → decoded_from m a l p q x y z t ≡ decoded f t
decoded_alike f out {k} {o} e h maps softs pairs told t =
    let said : fields_in (take k o) ≡ fields_in (written_record f) = ap fields_in (record_said f out e) in
    read_decoded (take k o) maps softs pairs told t
    ∙ ap (λ (g : Fields). decoded g t) (said ∙ fields_back f (call_accepted f out e).0 h)
    ∙ taken_alike (taken f.soft) f.soft (taken_twice f.soft) f.code f.list_size f.stop t
