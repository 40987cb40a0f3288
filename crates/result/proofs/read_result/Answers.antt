-- Refused for its shape, or for what lies behind it, or else read.
use Rattle.std.proofs.Common.{◌≡◌, ◌∙◌, List, ℕ, ℤ, pos, length}
use Rattle.std.proofs.lemmas.Result.{err_from_is_err_and}
use Rattle.spec.specs.Faults.{first}
use Rattle.spec.specs.Outcome.{padded}
use Rattle.spec.specs.ResultRecord.{ResultAnswer, said_by, result_scores, result_inputs, result_shape_faults, customer_reading, customer_refusal, customer_served}
use Rattle.laws.specs.ResultReading.{customer_rest, CustomerAccepts, customer_accepts, customer_shape, customer_behind, customer_refused, customer_served_lem}
use Rattle.refusals.specs.Number.{number_of, not_zero}
use Rattle.result.proofs.read_result.Goals as goal

-- a reading is its answer and what the slices hold
same_reading : {a b : ResultAnswer} {y z : List ℤ} {u v : List ℕ} → a ≡ b → y ≡ z → u ≡ v → customer_reading a y u ≡ customer_reading b z v
same_reading p q r = rw (p, q, r)

-- past the tests: nothing was found, so the record is good and the slices have room for it
passed : {b given : List ℕ} (scores inputs : ℕ) → given ≡ b → 0 ≡ first (result_shape_faults b) → 0 ≡ first (customer_rest given scores inputs)
    → 0 ≡ customer_refusal b scores inputs
passed {b} scores inputs q e f = customer_behind b scores inputs e 0 (rw q at f)

accepts : {b given : List ℕ} (scores inputs : ℕ) → given ≡ b → 0 ≡ first (result_shape_faults b) → 0 ≡ first (customer_rest given scores inputs)
    → CustomerAccepts b scores inputs
accepts {b} scores inputs q e f = customer_accepts b scores inputs (passed scores inputs q e f)

pub returns-in_err-given : goal.returns-in_err-given
returns-in_err-given c =
    let b = c.args.bytes.now in
    let y = c.args.scores.now in
    let u = c.args.inputs.now in
    let e = c.in_err-given.field-0.0 in
    let p = err_from_is_err_and c.from_residual.result c.from_residual.ensures.1 in
    rw (p.1, p.2) (customer_refused b y u (number_of e)
    (customer_shape b (length y) (length u) (number_of e) c.in_err-given.ensures (not_zero e)) (not_zero e))

pub returns-in_err-check_customer : goal.returns-in_err-check_customer
returns-in_err-check_customer c =
    let b = c.args.bytes.now in
    let y = c.args.scores.now in
    let u = c.args.inputs.now in
    let e = c.in_err-check_customer.field-0.0 in
    let p = err_from_is_err_and c.from_residual-in_err-check_customer.result c.from_residual-in_err-check_customer.ensures.1 in
    rw (p.1, p.2) (customer_refused b y u (number_of e)
    (customer_behind b (length y) (length u) c.in_ok-given.ensures.1 (number_of e) (rw c.in_ok-given.ensures.0 at c.in_err-check_customer.ensures))
    (not_zero e))

pub write_scores-requires : goal.write_scores-requires
write_scores-requires c =
    let q = c.in_ok-given.ensures.0 in
    rw q (accepts (length c.args.scores.now) (length c.args.inputs.now) q c.in_ok-given.ensures.1 c.in_ok-check_customer.ensures).as_operator.score_room

pub write_inputs-requires : goal.write_inputs-requires
write_inputs-requires c =
    let q = c.in_ok-given.ensures.0 in
    rw q (accepts (length c.args.scores.now) (length c.args.inputs.now) q c.in_ok-given.ensures.1 c.in_ok-check_customer.ensures).input_room

pub returns : goal.returns
unfolding customer_served
returns c =
    let b = c.args.bytes.now in
    let y = c.args.scores.now in
    let u = c.args.inputs.now in
    let q = c.in_ok-given.ensures.0 in
    same_reading {b = said_by b} {z = padded (pos 0) (length y) (result_scores b)} {v = padded 0 (length u) (result_inputs b)} (rw q at c.head_of.ensures) (rw q at c.write_scores.ensures) (rw q at c.write_inputs.ensures)
    ∙ customer_served_lem b y u (passed (length y) (length u) q c.in_ok-given.ensures.1 c.in_ok-check_customer.ensures)
