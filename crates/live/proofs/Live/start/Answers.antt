use Rattle.std.proofs.Common.{refl, arith}
use Rattle.live.proofs.Steps.{start_rep}
use Rattle.live.proofs.Live.start.Goals as goal

pub returns : goal.returns
returns c = (record { few = omega arith; are = refl; counted = refl }, start_rep, refl)
