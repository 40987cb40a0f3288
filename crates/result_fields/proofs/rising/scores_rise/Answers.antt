-- What the test of two neighbours says of them.
use Rattle.std.proofs.Common.{sym, ap₂, ◌∙◌, true, false, ◌-◌, arith, w32}
use mir.ValLaws.{to_z-of_z}
use Rattle.std.specs.Int.Signed.{lt_z}
use Rattle.result_fields.specs.Rising.{rise_turn, rise_end}
use Rattle.result_fields.proofs.rising.scores_rise.Goals as goal

pub returns-then-score-above : goal.returns-then-score-above
returns-then-score-above g c ys long is =
    let i = c.loop-i.i in
    let y = to_z-of_z w32 c.score.result (record { sfits = c.score.type_inv }) ∙ is (i - 1) c.score.result (omega arith) c.score.ensures in
    let z = to_z-of_z w32 c.score-above.result (record { sfits = c.score-above.type_inv }) ∙ is i c.score-above.result (omega arith) c.score-above.ensures in
    sym (c.loop-i.invariant ys long is ∙ rise_turn ys i true (omega arith) (omega (arith, long)) (sym (ap₂ lt_z y z) ∙ c.if-score-above.true))

pub loop-i-preserved : goal.loop-i-preserved
loop-i-preserved g c ys long is =
    let i = c.loop-i.i in
    let y = to_z-of_z w32 c.score.result (record { sfits = c.score.type_inv }) ∙ is (i - 1) c.score.result (omega arith) c.score.ensures in
    let z = to_z-of_z w32 c.score-above.result (record { sfits = c.score-above.type_inv }) ∙ is i c.score-above.result (omega arith) c.score-above.ensures in
    c.loop-i.invariant ys long is ∙ rise_turn ys i false (omega arith) (omega (arith, long)) (sym (ap₂ lt_z y z) ∙ c.if-score-above.false)

pub returns : goal.returns
returns g c ys long is = sym (c.loop-i.invariant ys long is ∙ rise_end ys c.loop-i.i (omega arith) (omega (arith, long)))
