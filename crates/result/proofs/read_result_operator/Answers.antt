-- Refused for its shape, or for what lies behind it, or else read.
use Rattle.std.proofs.Common.{◌≡◌, ap₂, ◌∙◌, List, ℕ, length}
use Rattle.std.proofs.lemmas.Result.{err_from_is_err_and}
use Rattle.spec.specs.Faults.{first}
use Rattle.spec.specs.ResultRecord.{result_shape_faults, operator_reading, operator_refusal, operator_served}
use Rattle.laws.specs.ResultReading.{operator_rest, operator_accepts, operator_shape, operator_behind, operator_refused, operator_served_lem}
use Rattle.refusals.specs.Number.{number_of, not_zero}
use Rattle.result.proofs.read_result_operator.Goals as goal

-- past the tests: nothing was found
passed : {b given : List ℕ} (scores : ℕ) → given ≡ b → 0 ≡ first (result_shape_faults b) → 0 ≡ first (operator_rest given scores)
    → 0 ≡ operator_refusal b scores
passed {b} scores q e f = operator_behind b scores e 0 (rw q at f)

pub returns-in_err-given : goal.returns-in_err-given
returns-in_err-given c =
    let b = c.args.bytes.now in
    let y = c.args.scores.now in
    let e = c.in_err-given.field-0.0 in
    let p = err_from_is_err_and c.from_residual.result c.from_residual.ensures.1 in
    rw (p.1, p.2) (operator_refused b y (number_of e) (operator_shape b (length y) (number_of e) c.in_err-given.ensures (not_zero e)) (not_zero e))

pub returns-in_err-check_operator : goal.returns-in_err-check_operator
returns-in_err-check_operator c =
    let b = c.args.bytes.now in
    let y = c.args.scores.now in
    let e = c.in_err-check_operator.field-0.0 in
    let p = err_from_is_err_and c.from_residual-in_err-check_operator.result c.from_residual-in_err-check_operator.ensures.1 in
    rw (p.1, p.2) (operator_refused b y (number_of e)
    (operator_behind b (length y) c.in_ok-given.ensures.1 (number_of e) (rw c.in_ok-given.ensures.0 at c.in_err-check_operator.ensures))
    (not_zero e))

pub write_scores-requires : goal.write_scores-requires
write_scores-requires c =
    let n = length c.args.scores.now in
    rw c.in_ok-given.ensures.0
    (operator_accepts c.args.bytes.now n (passed n c.in_ok-given.ensures.0 c.in_ok-given.ensures.1 c.in_ok-check_operator.ensures)).score_room

pub returns : goal.returns
unfolding operator_served
returns c =
    let b = c.args.bytes.now in
    let y = c.args.scores.now in
    let q = c.in_ok-given.ensures.0 in
    ap₂ operator_reading (rw q at c.head_of.ensures) (rw q at c.write_scores.ensures)
    ∙ operator_served_lem b y (passed (length y) q c.in_ok-given.ensures.1 c.in_ok-check_operator.ensures)
