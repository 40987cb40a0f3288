-- The rows are written, and the rest is filled.
use Rattle.std.proofs.Common.{◌∙◌, arith}
use Rattle.spec.specs.ResultRecord.{result_inputs}
use Rattle.slices.specs.Fill.{filled_front}
use Rattle.place.specs.Put.{whole}
use Rattle.result.proofs.outputs.write_inputs.Goals as goal

pub returns : goal.returns
returns c =
    let w = whole c.put_inputs-count.ensures.0 c.put_inputs-count.ensures.1 in
    c.fill_from.ensures
    ∙ filled_front 0 (result_inputs c.args.given.bytes.now) c.args.inputs.now _ c.put_inputs-count.result w.bytes w.count (omega (arith, w.count, w.fits))
