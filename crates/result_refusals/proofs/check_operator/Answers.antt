-- What the values are refused for, or else the room.
use Rattle.std.proofs.Common.{◌≡◌, refl, [], ◌∷◌, List, ℕ, lt-ltb, le-ltb, arith, rules}
use Rattle.spec.specs.Faults.{first}
use Rattle.spec.specs.Refusals.{room_fault}
use Rattle.spec.specs.ResultRecord.{row_count, result_value_faults}
use Rattle.laws.specs.FirstFault.{First, none, here, later, is_first, first_after}
use Rattle.laws.specs.ResultReading.{operator_rest, result_value_numbers}
use Rattle.refusals.specs.Parts.{refused_before}
use Rattle.result_refusals.proofs.check_operator.Goals as goal

-- what the room says is what all say, once the values are passed
past_values : (s : List ℕ) (scores k : ℕ) → 0 ≡ first (result_value_faults s) → First (room_fault (row_count s) scores ∷ []) k
    → k ≡ first (operator_rest s scores)
past_values s scores k e f =
    let room = room_fault (row_count s) scores ∷ [] in
    first_after (result_value_faults s) room 0 e (result_value_numbers s) refl k (is_first room k f)

pub returns-in_err-check_values : goal.returns-in_err-check_values
returns-in_err-check_values c =
    let s = c.args.given.bytes.now in
    refused_before (result_value_faults s) (room_fault (row_count s) c.args.scores ∷ []) c.from_residual.result c.in_err-check_values.field-0.0
    (search rules) c.in_err-check_values.ensures

pub returns-then-scores-given : goal.returns-then-scores-given
returns-then-scores-given c =
    let s = c.args.given.bytes.now in
    past_values s c.args.scores 10 c.in_ok-check_values.ensures
    (here (lt-ltb c.args.scores (row_count s) (omega (arith, c.if-scores-given.true, c.args.given.laid.rows_are))))

pub returns : goal.returns
returns c =
    let s = c.args.given.bytes.now in
    past_values s c.args.scores 0 c.in_ok-check_values.ensures
    (later (le-ltb c.args.scores (row_count s) (omega (arith, c.if-scores-given.false, c.args.given.laid.rows_are))) none)
