use Rattle.std.proofs.Common.{refl, ap, ◌∙◌, true, ℕ, ◌^◌, rules}
use Rattle.spec.specs.Code.{Code, code}
use Rattle.spec.specs.Faults.{first}
use Rattle.spec.specs.Refusals.{code_faults, run_faults}
use Rattle.laws.specs.Accepted.{code_numbers, accepted}
use Rattle.laws.specs.FirstFault.{first_after}
use Rattle.refusals.specs.Parts.{refused_before}
use Rattle.decode_refusals.proofs.check_block.Goals as goal

pub returns-in_err-check : goal.returns-in_err-check
returns-in_err-check c arikan =
    let s = c.args.code in
    refused_before (code_faults (code s.m arikan s.map.now s.pairs.now)) (run_faults (2 ^ s.m) c.args.l c.args.p c.args.soft.now)
    c.from_residual.result c.in_err-check.field-0.0 (search rules) (c.in_err-check.ensures arikan)

pub size-requires : goal.size-requires
size-requires c =
    let s = c.args.code in
    (accepted (code s.m true s.map.now s.pairs.now) (c.in_ok-check.ensures true)).high

pub returns : goal.returns
returns c arikan =
    let s = c.args.code in
    let o : Code = code s.m arikan s.map.now s.pairs.now in
    first_after (code_faults o) (run_faults (2 ^ s.m) c.args.l c.args.p c.args.soft.now) 0 (c.in_ok-check.ensures arikan) (code_numbers o) refl _
    (c.check_run.ensures ∙ ap (λ (n : ℕ). first (run_faults n c.args.l c.args.p c.args.soft.now)) c.size.ensures.0)
