-- The two parts of the table, one after the other.
use Rattle.std.proofs.Common.{◌≡◌, refl, ◌∙◌, List, ℕ, rules}
use Rattle.spec.specs.Faults.{Fault, first}
use Rattle.spec.specs.Record.{positions, list_size, stop_position}
use Rattle.laws.specs.FirstFault.{first_after}
use Rattle.ranges.specs.Ranges.{range_faults}
use Rattle.job_refusals.specs.Conditions.{record_code_faults, record_code_numbers}
use Rattle.refusals.specs.Parts.{refused_before}
use Rattle.job_refusals.proofs.check_code_and_range.Goals as goal

-- the second part
abbrev rest : List ℕ → List Fault
rest s = range_faults (positions s) (list_size s) (stop_position s)

same_range : {n n' l l' p p' : ℕ} → n ≡ n' → l ≡ l' → p ≡ p' → first (range_faults n l p) ≡ first (range_faults n' l' p')
same_range a b d = rw (a, b, d)

pub returns-in_err-check_code : goal.returns-in_err-check_code
returns-in_err-check_code c =
    let s = c.args.job.bytes.now in
    refused_before (record_code_faults s) (rest s) c.from_residual.result c.in_err-check_code.field-0.0 (search rules) c.in_err-check_code.ensures

pub returns : goal.returns
returns c =
    let r = c.args.job in
    let s = r.bytes.now in
    first_after (record_code_faults s) (rest s) 0 c.in_ok-check_code.ensures (record_code_numbers s) refl _
    (c.check_range.ensures ∙ same_range r.laid.n_is c.list_size-l.ensures c.stop_position-p.ensures)
