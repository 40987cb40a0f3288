-- By the bit.
use Rattle.std.proofs.Common.{w32, to_z}
use Rattle.correlations.proofs.Adding.{kept_added, negated_added}
use Rattle.correlations.proofs.bins.add_signed.Goals.{then-b-eq0, else-b-eq0}
use Rattle.correlations.proofs.bins.add_signed.Goals as goal

pub returns : goal.returns
returns c =
    let y = c.args.y in
    let f = c.from-y.result in
    let v = to_z w32 c.if-b-eq0.signed-bits in
    elim c.if-b-eq0.branch [
      | then-b-eq0 w ↦ kept_added y f c.ranges.y.sfits c.from-y.ensures c.args.b c.args.x c.wrapping_add_signed.result v c.wrapping_add_signed.ensures w.if-b-eq0.true w.signed-is
      | else-b-eq0 w ↦ negated_added y f c.ranges.y.sfits c.from-y.ensures c.args.b c.args.x c.wrapping_add_signed.result v c.wrapping_add_signed.ensures w.if-b-eq0.false w.signed-is
    ]
