-- The number that stands where the score is.
use Rattle.std.proofs.Common.{ap, ◌∙◌, ℕ, ◌+◌, ◌*◌, w32}
use mir.ValLaws.{to_z-of_z}
use Rattle.spec.specs.Record.{fields, four_at, signed32}
use Rattle.spec.specs.ResultRecord.{scores_at, row_count}
use Rattle.result_fields.specs.Laid.{score_is}
use Rattle.result_fields.proofs.record.ResultRecord.score.Goals as goal

pub returns : goal.returns
returns c =
    let s = c.args.self.bytes.now in
    to_z-of_z w32 c.signed_four.result (record { sfits = c.signed_four.type_inv }) ∙ c.signed_four.ensures
    ∙ ap (λ (k : ℕ). signed32 (four_at s (k + 4 * c.args.i))) c.args.self.laid.scores_begin
    ∙ score_is s (scores_at (fields s)) (row_count s) c.args.i c.requires
