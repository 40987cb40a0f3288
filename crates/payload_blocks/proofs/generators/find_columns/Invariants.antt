-- The columns are those for the last j bits.
use Rattle.std.proofs.Common.{◌≡◌}
use Rattle.spec.specs.Code.{size}
use Rattle.correlations.specs.Folding.{columns}
use Rattle.code.specs.Codes.{code_of}
use Rattle.payload_blocks.specs.Payloads.{generators}
use Rattle.payload_blocks.proofs.generators.find_columns.Given as goal

abbrev pub invariant-loop-j : goal.invariant-loop-j
invariant-loop-j l = let c = code_of l.code in l.cols ≡ columns (size c) (generators c l.j)
