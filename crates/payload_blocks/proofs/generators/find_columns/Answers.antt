-- Each code word of a single bit is added to the columns.
use Rattle.std.proofs.Common.{arith}
use Rattle.code.specs.Codes.{code_of}
use Rattle.payload_blocks.proofs.Turns.{found_none, found_fits, found_more}
use Rattle.payload_blocks.proofs.generators.find_columns.Goals as goal

pub loop-j-init : goal.loop-j-init
loop-j-init c = found_none (code_of c.args.code) _ _ c.requires.1 (c.fill.ensures.after (λ y q. q))

pub add_generator-requires : goal.add_generator-requires
add_generator-requires c =
    found_fits (code_of c.args.code) c.loop-j.j (omega arith) c.requires.0
    c.loop-j.auto.payload c.loop-j.auto.word c.loop-j.invariant

pub loop-j-preserved : goal.loop-j-preserved
loop-j-preserved c =
    found_more (code_of c.args.code) c.loop-j.j (omega arith) c.loop-j.invariant c.add_generator.ensures
