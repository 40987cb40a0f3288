-- The scores from the one before the place on decide.
use Rattle.std.proofs.Common.{◌≡◌, List, ℕ, ◌-◌, ◌<◌, length, get_or, drop, ℤ, pos}
use Rattle.spec.specs.ResultRecord.{rising}
use Rattle.result_fields.proofs.rising.scores_rise.Given as goal

abbrev pub invariant-loop-i : goal.invariant-loop-i
invariant-loop-i g l =
    (ys : List ℤ) → length ys ≡ l.k → ((i : ℕ) (y : ℤ) → i < l.k → goal.F-post g l.score i y → y ≡ get_or ys i (pos 0))
    → rising ys ≡ rising (drop (l.i - 1) ys)
