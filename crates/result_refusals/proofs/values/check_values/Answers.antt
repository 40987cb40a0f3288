-- At each return the tests that were passed, and the one that was not.
use Rattle.std.proofs.Common.{sym, ◌∙◌}
use Rattle.spec.specs.ResultRecord.{result_value_faults}
use Rattle.laws.specs.FirstFault.{none, here, later, is_first}
use Rattle.result_refusals.proofs.values.check_values.Goals as goal

pub returns-then-rising : goal.returns-then-rising
returns-then-rising c = is_first (result_value_faults c.args.given.bytes.now) 22 (here (sym c.rising.ensures ∙ c.if-rising.true))

pub returns-then-zero_frame : goal.returns-then-zero_frame
returns-then-zero_frame c =
    is_first (result_value_faults c.args.given.bytes.now) 22
    (later (sym c.rising.ensures ∙ c.if-rising.false) (here (sym c.zero_frame.ensures ∙ c.if-zero_frame.true)))

pub returns-then-low_ceiling : goal.returns-then-low_ceiling
returns-then-low_ceiling c =
    is_first (result_value_faults c.args.given.bytes.now) 22
    (later (sym c.rising.ensures ∙ c.if-rising.false) (later (sym c.zero_frame.ensures ∙ c.if-zero_frame.false)
    (here (sym c.low_ceiling.ensures ∙ c.if-low_ceiling.true))))

pub returns : goal.returns
returns c =
    is_first (result_value_faults c.args.given.bytes.now) 0
    (later (sym c.rising.ensures ∙ c.if-rising.false) (later (sym c.zero_frame.ensures ∙ c.if-zero_frame.false)
    (later (sym c.low_ceiling.ensures ∙ c.if-low_ceiling.false) none)))
