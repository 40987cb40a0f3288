use Rattle.std.proofs.Common.{◌≡◌, ap, get_or, pos, arith, rules}
use Rattle.spec.specs.RecordOf.{low_first, thirty_two_bits}
use Rattle.spec.specs.ResultWriter.{score_bytes}
use Rattle.place.specs.Put.{all_left, less_left, none_left, put_same}
use Rattle.result_writer.specs.Turns.{score_turn, scores_done}
use Rattle.result_writer.proofs.parts.put_scores.Goals as goal

pub loop-y-init : goal.loop-y-init
loop-y-init c = (omega arith, all_left c.args.at (score_bytes c.args.scores.now) c.args.out.now)

pub loop-y-preserved : goal.loop-y-preserved
loop-y-preserved c =
    let ys = c.args.scores.now in
    let i = c.loop-y.y-index in
    let same : c.thirty_two_bits.result ≡ thirty_two_bits (get_or ys i (pos 0)) = search rules in (
      omega (arith, c.put_low-next.ensures.1, c.loop-y.invariant.0),
      less_left c.loop-y.invariant.1 (score_turn i ys (omega arith)) (put_same c.put_low-next.ensures.0 (ap (low_first 4) same)),
    )

pub returns : goal.returns
returns c = (
  none_left c.loop-y.invariant.1 (scores_done c.loop-y.y-index c.args.scores.now (omega arith)),
  omega (arith, c.loop-y.invariant.0),
)
