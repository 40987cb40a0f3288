use Rattle.std.proofs.Common.{◌≡◌, ◌+◌, ap, ◌∙◌, arith, rules, drop, nat_abs}
use mir.Syntax.{w16}
use mir.ValLaws.{to_z-of_z}
use Rattle.spec.specs.Score.{taken}
use Rattle.laws.specs.Cost.{magnitude}
use Rattle.laws.specs.Taken.{length_taken, magnitude_range}
use Rattle.rows.proofs.ScoreRows.{magnitude_next}
use Rattle.rows.proofs.scores.magnitude.Goals as goal

-- the magnitude of the next value, and those behind it
more : (c : goal.After-magnitude_of-sum)
    → c.magnitude_of-sum.result + magnitude (drop (c.loop-i.i + 1) (taken c.args.soft.now)) ≡ magnitude (drop c.loop-i.i (taken c.args.soft.now))
more c =
    let y = taken c.args.soft.now in
    let z = c.magnitude_of-sum.ensures ∙ ap nat_abs (to_z-of_z w16 c.taken_at.result (search rules) ∙ c.taken_at.ensures) in
    omega (arith, z, magnitude_next y c.loop-i.i (omega (arith, length_taken c.args.soft.now)))

pub overflow_add-sum : goal.overflow_add-sum
overflow_add-sum c = omega (arith, more c, magnitude_range c.args.soft.now c.requires.1)

pub loop-i-preserved : goal.loop-i-preserved
loop-i-preserved c = omega (arith, more c)
