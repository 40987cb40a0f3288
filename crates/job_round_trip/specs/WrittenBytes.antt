-- What is written of a map and pairs that are bytes is bytes, so that a slice can hold it: no element is above 255.
use Rattle.std.specs.Prelude.{◌≡◌, false}
use Rattle.spec.specs.RecordOf.{pairs_of}
use Rattle.spec.specs.JobWriter.{Fields, leanest, written_record}
use Rattle.laws.specs.WriteCall.{Writable}
use Rattle.laws.specs.WrittenForm.{pairs_back}
use Rattle.job.specs.ReadBack.{above_byte, record_bytes}

pub written_bytes : (f : Fields) → Writable f → above_byte f.code.map ≡ false → above_byte f.code.pairs ≡ false
    → above_byte (written_record f) ≡ false
unfolding written_record
written_bytes f w e q =
    let pairs : above_byte (pairs_of (leanest f).pairs) ≡ false = rw (pairs_back f.code.pairs) q in
    record_bytes (leanest f) w.accepts.high e pairs
