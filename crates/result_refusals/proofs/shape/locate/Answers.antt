-- What the head is refused for, or else the length.
use Rattle.std.proofs.Common.{◌≡◌, refl, List, ℕ, Result, Ok, Err}
use Rattle.std.proofs.lemmas.Result.{err_from_is_err_and}
use Rattle.spec.specs.Faults.{first}
use Rattle.spec.specs.ResultRecord.{result_head_faults, result_length_faults, result_shape_faults}
use Rattle.laws.specs.FirstFault.{first_before, first_after}
use Rattle.laws.specs.ResultReading.{result_head_numbers}
use Rattle.refusals.specs.declared.Refusal.{Refusal}
use Rattle.refusals.specs.Number.{number_of, not_zero}
use Rattle.result_fields.specs.declared.record.ResultRecord.{ResultRecord}
use Rattle.result_refusals.specs.Shape.{Found}
use Rattle.result_refusals.proofs.shape.locate.Goals as goal

-- an answer by the length is one by all, once the conditions of the head are passed
passed : (s : List ℕ) → 0 ≡ first (result_head_faults s) → (r : Result ResultRecord Refusal) → Found s (result_length_faults s) r
    → Found s (result_shape_faults s) r
passed s e (Ok r) f = (f.0, first_after (result_head_faults s) (result_length_faults s) 0 e (result_head_numbers s) refl 0 f.1)
passed s e (Err k) f = first_after (result_head_faults s) (result_length_faults s) 0 e (result_head_numbers s) refl (number_of k) f

pub returns-in_err-head : goal.returns-in_err-head
returns-in_err-head c =
    let s = c.args.bytes.now in
    let p = err_from_is_err_and c.from_residual.result c.from_residual.ensures.1 in
    rw (p.1, p.2) (first_before (result_head_faults s) (result_length_faults s) _ c.in_err-head.ensures (not_zero c.in_err-head.field-0.0))

pub returns : goal.returns
returns c = passed c.args.bytes.now c.in_ok-head.ensures.1 c.locate_parts.result c.locate_parts.ensures
