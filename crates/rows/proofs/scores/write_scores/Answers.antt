use Rattle.std.proofs.Common.{◌∙◌, arith, rules, length}
use mir.Syntax.{w32}
use mir.ValLaws.{to_z-of_z}
use Rattle.rows.proofs.ScoreRows.{score_next}
use Rattle.rows.proofs.scores.write_scores.Goals as goal

pub loop-r-preserved : goal.loop-r-preserved
loop-r-preserved c =
    score_next c.args.total c.loop-r.r (length c.args.scores.now) c.args.costs.now c.loop-r.scores (omega (arith, c.requires.there, c.requires.few)) (omega (arith, c.requires.room))
    c.loop-r.invariant _ (to_z-of_z w32 c.score_of.result (search rules) ∙ c.score_of.ensures)
