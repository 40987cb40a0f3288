-- The length of the head, by the bits of its fields, of the scores and of the packed rows.
use Rattle.std.proofs.Common.{ap, arith}
use Rattle.spec.specs.ResultRecord.{scores_at}
use Rattle.spec.specs.ResultWriter.{frame_field, ceiling_field}
use Rattle.laws.specs.ResultWriting.{length_result, scores_behind}
use Rattle.result_writer.specs.Given.{given_of}
use Rattle.result_writer.proofs.block.BlockResult.length.Goals as goal

pub returns : goal.returns
returns c =
    let r = given_of c.args.self in (
      omega (
        arith,
        c.length_of.ensures.0,
        ap scores_at c.fields_byte.ensures.0,
        scores_behind (frame_field r) (ceiling_field r),
        length_result r c.requires.scores_long,
      ),
      c.length_of.ensures.1,
    )
