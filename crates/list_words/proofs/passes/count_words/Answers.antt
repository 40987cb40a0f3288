-- Each block begins before the last payload and ends there or before.
use Rattle.code.specs.Codes.{code_of}
use Rattle.std.proofs.Common.{◌≡◌, ℕ, ◌+◌, length, ap, subst, ℤ, w32, to_z, of_z, arith}
use mir.ValLaws.{to_z-of_z}
use Rattle.spec.specs.Code.{Code}
use Rattle.spec.specs.Score.{taken}
use Rattle.payload_blocks.specs.Payloads.{correlations}
use Rattle.list_words.specs.Hits.{hits}
use Rattle.list_words.proofs.Passing.{passing_turn, passing_done, turn_fits, turn_inside, sum_small}
use Rattle.list_words.proofs.passes.count_words.Goals as goal

pub count_turn-found-requires : goal.count_turn-found-requires
count_turn-found-requires c =
    let i = c.loop-q.invariant in
    (turn_fits c.requires.0 i, i.multiple, turn_inside c.requires.0 i (omega arith))

pub overflow_add-found : goal.overflow_add-found
overflow_add-found c =
    omega (arith, c.count_turn-found.ensures, sum_small c.requires.0 c.loop-q.invariant (omega arith) (to_z w32 (of_z w32 c.args.mark)))

pub loop-q-preserved : goal.loop-q-preserved
loop-q-preserved c =
    let a = c.count_turn-found.auto in
    passing_turn c.requires.0 c.loop-q.invariant (omega arith) a.payload a.word a.bins (ap (λ (j : ℕ). c.loop-q.found + j) c.count_turn-found.ensures)

pub returns : goal.returns
returns c =
    let of : Code = code_of c.args.code in
    subst (λ (z : ℤ). c.loop-q.found ≡ length (hits z 0 (correlations of (taken c.args.soft.now)))) (to_z-of_z w32 c.args.mark c.ranges.mark)
    (passing_done c.requires.0 c.loop-q.invariant (omega arith))

-- the exit of `step_by` behind the last block
pub returns-2 : goal.returns-2
returns-2 c =
    let of : Code = code_of c.args.code in
    let a = c.count_turn-found.auto in
    subst (λ (z : ℤ). c.loop-q.found + c.count_turn-found.result ≡ length (hits z 0 (correlations of (taken c.args.soft.now)))) (to_z-of_z w32 c.args.mark c.ranges.mark)
    (passing_done c.requires.0
    (passing_turn c.requires.0 c.loop-q.invariant (omega arith) a.payload a.word a.bins (ap (λ (j : ℕ). c.loop-q.found + j) c.count_turn-found.ensures))
    (omega arith))
