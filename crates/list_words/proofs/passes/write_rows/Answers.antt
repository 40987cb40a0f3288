-- Each block begins before the last payload and ends there or before.
use Rattle.code.specs.Codes.{code_of}
use Rattle.std.proofs.Common.{refl, sym, subst, ℤ, w32, to_z, of_z, arith}
use mir.ValLaws.{to_z-of_z}
use Rattle.spec.specs.Code.{Code}
use Rattle.spec.specs.Score.{taken}
use Rattle.payload_blocks.specs.Payloads.{correlations}
use Rattle.list_words.specs.Hits.{hits}
use Rattle.list_words.specs.Kept.{Kept}
use Rattle.list_words.proofs.Passing.{passing_none, kept_none, writing_turn, writing_done, turn_room, room_again, turn_fits, turn_inside}
use Rattle.list_words.proofs.passes.write_rows.Goals as goal

pub loop-q-init : goal.loop-q-init
loop-q-init c =
    let of : Code = code_of c.args.code in
    let z = c.clear_outputs in
    record {
      pass = passing_none of c.args.soft.now (to_z w32 (of_z w32 c.args.mark)) c.args.r c.args.payload.now c.args.word.now c.args.bins.now;
      inputs_kept = z.auto.inputs;
      words_kept = z.auto.words;
      scores_kept = z.auto.scores;
      rows_are = kept_none of (taken c.args.soft.now) c.args.inputs.now c.args.words.now c.args.scores.now z.new.inputs z.new.words z.new.scores z.auto.inputs z.auto.words z.auto.scores z.ensures.0 z.ensures.1 z.ensures.2;
    }

pub write_turn-found-requires : goal.write_turn-found-requires
write_turn-found-requires c =
    let f = c.requires.0 in
    let i = c.loop-q.invariant in (
      turn_fits f i.pass,
      i.pass.multiple,
      turn_inside f i.pass (omega arith),
      turn_room f i (omega arith) (room_again c.requires.2 (sym (to_z-of_z w32 c.args.mark c.ranges.mark)) refl refl refl),
    )

pub loop-q-preserved : goal.loop-q-preserved
loop-q-preserved c =
    let a = c.write_turn-found.auto in
    writing_turn c.requires.0 c.loop-q.invariant (omega arith) a.payload a.word a.bins a.inputs a.words a.scores c.write_turn-found.ensures

pub returns : goal.returns
returns c =
    let of : Code = code_of c.args.code in
    let y = taken c.args.soft.now in
    subst (λ (z : ℤ). Kept of y (hits z 0 (correlations of y)) c.loop-q.inputs c.loop-q.words c.loop-q.scores) (to_z-of_z w32 c.args.mark c.ranges.mark)
    (writing_done c.requires.0 c.loop-q.invariant (omega arith))

-- the exit of `step_by` behind the last block
pub returns-2 : goal.returns-2
returns-2 c =
    let of : Code = code_of c.args.code in
    let y = taken c.args.soft.now in
    let n = c.write_turn-found.new in
    let a = c.write_turn-found.auto in
    subst (λ (z : ℤ). Kept of y (hits z 0 (correlations of y)) n.inputs n.words n.scores) (to_z-of_z w32 c.args.mark c.ranges.mark)
    (writing_done c.requires.0
    (writing_turn c.requires.0 c.loop-q.invariant (omega arith) a.payload a.word a.bins a.inputs a.words a.scores c.write_turn-found.ensures)
    (omega arith))
