-- All that the operator reader goes by is the length of a record and the bytes before its packed rows. No code is in scope: the theorem is
-- over the definitions.
use Rattle.std.specs.Prelude.{◌≡◌, List, ℕ, ℤ}
use Rattle.spec.specs.ResultRecord.{operator_outcome}
use Rattle.result_round_trip.specs.OperatorKnows.{blanked, only_packed}
use Rattle.result_round_trip.proofs.Operator.{operator_sees_no_bits}

-- with 0 for every packed byte it says the same of the record, refusals included
pub operator_outcome_by_head : (s : List ℕ) (lent : List ℤ) → operator_outcome s lent ≡ operator_outcome (blanked s) lent
operator_outcome_by_head s lent = operator_sees_no_bits s (blanked s) (only_packed s) lent
