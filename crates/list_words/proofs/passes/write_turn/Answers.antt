use Rattle.code.specs.Codes.{code_of}
use Rattle.std.proofs.Common.{◌∙◌, w32, to_z, of_z}
use mir.ValLaws.{to_z-of_z}
use Rattle.spec.specs.Score.{taken}
use Rattle.list_words.proofs.Passing.{block_holds, room_of, wrote_block}
use Rattle.list_words.proofs.passes.write_turn.Goals as goal

pub keep_block-requires : goal.keep_block-requires
keep_block-requires c =
    let f = c.requires.0 in
    let b = c.correlate_block in (
      record { accepts = f.lent.accepts; payload_long = b.auto.payload ∙ f.lent.payload_long; word_long = c.requires.3.row },
      room_of f (block_holds f c.requires.2 b.new.bins b.auto.bins b.ensures) (b.auto.bins ∙ f.bins_long) (to_z-of_z w32 c.args.mark c.ranges.mark) c.requires.3,
    )

pub returns : goal.returns
returns c hs e =
    let f = c.requires.0 in
    let b = c.correlate_block in
    wrote_block (code_of c.args.code) c.args.soft.now (to_z w32 (of_z w32 c.args.mark)) c.args.mark c.args.r c.args.q b.new.bins hs
    (to_z-of_z w32 c.args.mark c.ranges.mark) (b.auto.bins ∙ f.bins_long)
    (c.keep_block.ensures (taken c.args.soft.now) hs e (block_holds f c.requires.2 b.new.bins b.auto.bins b.ensures))
