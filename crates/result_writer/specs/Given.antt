-- The result that a value of the type `BlockResult` stands for.
use Rattle.spec.specs.ResultWriter.{Result, result_of}
use Rattle.result_writer.specs.declared.block.BlockResult.{BlockResult}

abbrev pub given_of : BlockResult → Result
given_of r = result_of r.m r.rows r.frame r.ceiling r.scores.now r.inputs.now
