-- The bytes are copied, and the rest is filled.
use Rattle.std.proofs.Common.{ap, ◌∙◌, length}
use Rattle.spec.specs.Outcome.{padded}
use Rattle.slices.specs.Fill.{filled_behind}
use Rattle.job.proofs.copying.write_part.Goals as goal

pub returns : goal.returns
returns c =
    let from = c.args.from.now in
    let part = c.args.part.now in
    let copied = c.copy.ensures in
    c.fill_from.ensures ∙ filled_behind 0 c.copy.new.to part (length from) (ap length copied) c.requires ∙ ap (padded 0 (length part)) copied
