use Rattle.std.proofs.Common.{◌≡◌, ◌<◌, sym, ◌∙◌, add-one, length, take, get_or, take_all, arith}
use Rattle.std.proofs.Math.ListN.{length-set}
use Rattle.std.proofs.Math.Seq.{take-suc, take-suc-set}
use Rattle.slices.proofs.copy.Goals as goal

pub loop-i-preserved : goal.loop-i-preserved
loop-i-preserved c =
    let from = c.args.from.now in
    let to = c.loop-i.to in
    let i = c.loop-i.i in
    let h : i < length from = omega arith in
    let k : i < length to = omega (arith, c.loop-i.invariant.0) in (
      length-set to i (get_or from i 0) ∙ c.loop-i.invariant.0,
      rw (add-one i, take-suc-set to i (get_or from i 0), take-suc from i 0, c.loop-i.invariant.1),
    )

pub returns : goal.returns
returns c =
    let l = c.loop-i in
    sym (take_all l.i l.to (omega (arith, l.invariant.0))) ∙ l.invariant.1 ∙ take_all l.i c.args.from.now (omega arith)
