-- One bin more, and all.
use Rattle.code.specs.Codes.{code_of}
use Rattle.std.proofs.Common.{◌≡◌, ◌++◌, length, sym, subst, ◌∙◌, ℤ, w32, arith}
use mir.ValLaws.{to_z-of_z}
use Rattle.spec.specs.Code.{Code}
use Rattle.list_words.specs.Hits.{hits}
use Rattle.list_words.specs.Kept.{Kept, part, BlockRoom}
use Rattle.list_words.proofs.KeepingBlock.{keeping_turn, keeping_done, bin_fits}
use Rattle.list_words.proofs.rows_kept.keep_block.Goals as goal

pub keep-found-requires : goal.keep-found-requires
keep-found-requires c =
    let f = c.requires.0 in
    let a = c.args in
    let of : Code = code_of a.code in
    let room = subst (λ (z : ℤ). BlockRoom of z a.bins.now a.n a.from a.q (length a.inputs.now) (length a.words.now) (length a.scores.now)) (sym (to_z-of_z w32 a.mark c.ranges.mark)) c.requires.1 in (
      record { accepts = f.accepts; payload_long = c.loop-i.invariant.payload_kept ∙ f.payload_long; word_long = f.word_long },
      bin_fits c.loop-i.invariant room c.loop-i-test.true,
    )

pub loop-i-preserved : goal.loop-i-preserved
loop-i-preserved c =
    let k = c.keep-found in
    keeping_turn c.loop-i.invariant c.loop-i-test.true k.auto.payload k.auto.inputs k.auto.words k.auto.scores k.ensures

pub returns : goal.returns
returns c y hs e h =
    let a = c.args in
    let of : Code = code_of a.code in
    let p = part of y a.q (length a.bins.now) in
    subst (λ (z : ℤ). (c.loop-i.found ≡ length (hs ++ hits z a.q p))
    × (Kept of y hs a.inputs.now a.words.now a.scores.now → Kept of y (hs ++ hits z a.q p) c.loop-i.inputs c.loop-i.words c.loop-i.scores))
    (to_z-of_z w32 a.mark c.ranges.mark) (keeping_done c.loop-i.invariant (omega arith) y hs h e)
