-- What the readers' answers mean: the values or the number that 02 gives for each case.
use Rattle.std.specs.Prelude.{List, ℕ, ℤ, pos, Result, Ok, Err}
use Rattle.spec.specs.ResultRecord.{ResultAnswer, result_says, refused_result, OperatorReading, CustomerReading}
use Rattle.refusals.specs.declared.Refusal.{Refusal}
use Rattle.refusals.specs.Number.{number_of}
use Rattle.result.specs.declared.ResultHead.{ResultHead}
use Rattle.result.specs.declared.host.ResultFields.{ResultFields}

abbrev pub answer_of : Result ResultHead Refusal → ResultAnswer
answer_of (Ok h) = result_says h.m h.rows h.frame h.ceiling
answer_of (Err e) = refused_result (number_of e)

-- ---- for a host that has no enum: 0 and the fields, or the refusal number and 0 in each field
abbrev pub fields_of : ResultAnswer → ResultFields
fields_of (result_says m rows frame ceiling) = record { refusal = 0; m = m; rows = rows; frame = frame; ceiling = ceiling }
fields_of (refused_result k) = record { refusal = k; m = 0; rows = 0; frame = 0; ceiling = pos 0 }

pub record HostOperator : Type 0 where
  pub answer : ResultFields
  pub scores : List ℤ

abbrev pub host_operator : ResultFields → List ℤ → HostOperator
host_operator a scores = record { answer = a; scores = scores }

abbrev pub operator_for_host : OperatorReading → HostOperator
operator_for_host o = host_operator (fields_of o.answer) o.scores

pub record HostCustomer : Type 0 where
  pub answer : ResultFields
  pub scores : List ℤ
  pub inputs : List ℕ

abbrev pub host_customer : ResultFields → List ℤ → List ℕ → HostCustomer
host_customer a scores inputs = record { answer = a; scores = scores; inputs = inputs }

abbrev pub customer_for_host : CustomerReading → HostCustomer
customer_for_host o = host_customer (fields_of o.answer) o.scores o.inputs
