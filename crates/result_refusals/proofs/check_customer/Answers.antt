-- What the operator's reader refuses it for, and then two conditions more.
use Rattle.std.proofs.Common.{◌≡◌, refl, sym, ap₂, ◌∙◌, List, ℕ, ◌*◌, lt-ltb, le-ltb, arith, rules}
use Rattle.spec.specs.Faults.{first}
use Rattle.spec.specs.Record.{positions}
use Rattle.spec.specs.ResultRecord.{row_count}
use Rattle.laws.specs.FirstFault.{First, none, here, later, is_first, first_after}
use Rattle.laws.specs.ResultReading.{operator_rest, customer_last, customer_rest, operator_rest_numbers}
use Rattle.refusals.specs.Parts.{refused_before}
use Rattle.result_refusals.proofs.check_customer.Goals as goal

-- what the last conditions say is what all say, once the operator's are passed
past_seen : (s : List ℕ) (scores inputs k : ℕ) → 0 ≡ first (operator_rest s scores) → First (customer_last s inputs) k
    → k ≡ first (customer_rest s scores inputs)
past_seen s scores inputs k e f =
    first_after (operator_rest s scores) (customer_last s inputs) 0 e (operator_rest_numbers s scores) refl k (is_first (customer_last s inputs) k f)

pub returns-in_err-check_operator : goal.returns-in_err-check_operator
returns-in_err-check_operator c =
    let s = c.args.given.bytes.now in
    refused_before (operator_rest s c.args.scores) (customer_last s c.args.inputs) c.from_residual.result c.in_err-check_operator.field-0.0
    (search rules) c.in_err-check_operator.ensures

-- the bits of all rows, as they were counted
abbrev cells : List ℕ → ℕ
cells s = row_count s * positions s

pub returns-then-inputs-times : goal.returns-then-inputs-times
returns-then-inputs-times c =
    let s = c.args.given.bytes.now in
    let counted = c.times.ensures.0 ∙ ap₂ ◌*◌ c.args.given.laid.rows_are c.args.given.laid.n_is in
    past_seen s c.args.scores c.args.inputs 10 c.in_ok-check_operator.ensures
    (here (lt-ltb c.args.inputs (cells s) (omega (arith, counted, c.if-inputs-times.true))))

pub returns-then-some_past : goal.returns-then-some_past
returns-then-some_past c =
    let s = c.args.given.bytes.now in
    let counted = c.times.ensures.0 ∙ ap₂ ◌*◌ c.args.given.laid.rows_are c.args.given.laid.n_is in
    past_seen s c.args.scores c.args.inputs 21 c.in_ok-check_operator.ensures
    (later (le-ltb c.args.inputs (cells s) (omega (arith, counted, c.if-inputs-times.false))) (here (sym c.some_past.ensures ∙ c.if-some_past.true)))

pub returns : goal.returns
returns c =
    let s = c.args.given.bytes.now in
    let counted = c.times.ensures.0 ∙ ap₂ ◌*◌ c.args.given.laid.rows_are c.args.given.laid.n_is in
    past_seen s c.args.scores c.args.inputs 0 c.in_ok-check_operator.ensures
    (later (le-ltb c.args.inputs (cells s) (omega (arith, counted, c.if-inputs-times.false))) (later (sym c.some_past.ensures ∙ c.if-some_past.false) none))
