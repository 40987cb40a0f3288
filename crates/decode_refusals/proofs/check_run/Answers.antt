use Rattle.std.proofs.Common.{refl, rules}
use Rattle.laws.specs.FirstFault.{first_after}
use Rattle.ranges.specs.Ranges.{range_faults, range_numbers, soft_faults}
use Rattle.refusals.specs.Parts.{refused_before}
use Rattle.decode_refusals.proofs.check_run.Goals as goal

pub returns-in_err-check_range : goal.returns-in_err-check_range
returns-in_err-check_range c =
    refused_before (range_faults c.args.n c.args.l c.args.p) (soft_faults c.args.n c.args.soft.now) c.from_residual.result c.in_err-check_range.field-0.0
    (search rules) c.in_err-check_range.ensures

pub returns : goal.returns
returns c =
    first_after (range_faults c.args.n c.args.l c.args.p) (soft_faults c.args.n c.args.soft.now) 0 c.in_ok-check_range.ensures
    (range_numbers c.args.n c.args.l c.args.p) refl _ c.check_soft.ensures
