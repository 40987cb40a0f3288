use Rattle.std.proofs.Common.{length}
use Rattle.decode_records.proofs.records.decode_records.Given as goal

abbrev pub decreases-loop-len : goal.decreases-loop-len
decreases-loop-len l = length l.rest
