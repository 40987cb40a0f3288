-- 13 above 4,096 bytes, or the output for the record.
use Rattle.std.proofs.Common.{ap, ◌∙◌}
use Rattle.place.specs.Put.{begins_same}
use Rattle.row_text.specs.Output.{refused_text}
use Rattle.decode_job.specs.Records.{too_long, not_too_long}
use Rattle.decode_job.proofs.output.write_output.Goals as goal

pub returns-then-input-gt4096 : goal.returns-then-input-gt4096
returns-then-input-gt4096 c =
    begins_same (ap refused_text c.number.ensures.0 ∙ too_long c.args.input.now c.if-input-gt4096.true) c.write_refused.ensures

pub returns : goal.returns
returns c = begins_same (not_too_long c.args.input.now c.if-input-gt4096.false) c.write_record.ensures
