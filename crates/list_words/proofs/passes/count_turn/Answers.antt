use Rattle.code.specs.Codes.{code_of}
use Rattle.std.proofs.Common.{◌≡◌, length, subst, ℤ, w32}
use mir.ValLaws.{to_z-of_z}
use Rattle.payload_blocks.specs.BlockFits.{block}
use Rattle.list_words.specs.Hits.{hits}
use Rattle.list_words.proofs.Passing.{block_small}
use Rattle.list_words.proofs.passes.count_turn.Goals as goal

pub returns : goal.returns
returns c =
    let b = block (code_of c.args.code) c.args.soft.now c.args.r c.args.q in
    subst (λ (z : ℤ). c.count_block.result ≡ length (hits z c.args.q b)) (to_z-of_z w32 c.args.mark c.ranges.mark)
    (c.count_block.ensures.1 b c.args.q (block_small c.requires.0 c.args.q) c.correlate_block.ensures)
