-- The two parts of the table, one after the other.
use Rattle.std.proofs.Common.{refl, rules}
use Rattle.laws.specs.FirstFault.{first_after}
use Rattle.job_refusals.specs.Conditions.{code_and_range_faults, lent_faults, code_and_range_numbers}
use Rattle.refusals.specs.Parts.{refused_before}
use Rattle.job_refusals.proofs.check_fields.Goals as goal

pub returns-in_err-check_code_and_range : goal.returns-in_err-check_code_and_range
returns-in_err-check_code_and_range c =
    let a = c.args in
    let s = a.job.bytes.now in
    refused_before (code_and_range_faults s) (lent_faults s a.lent.map a.lent.soft a.lent.pairs) c.from_residual.result c.in_err-check_code_and_range.field-0.0
    (search rules) c.in_err-check_code_and_range.ensures

pub returns : goal.returns
returns c =
    let a = c.args in
    let s = a.job.bytes.now in
    first_after (code_and_range_faults s) (lent_faults s a.lent.map a.lent.soft a.lent.pairs) 0 c.in_ok-check_code_and_range.ensures (code_and_range_numbers s) refl _
    c.check_lent.ensures
