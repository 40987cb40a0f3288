-- At each return the tests that were passed, and the one that was not.
use Rattle.std.proofs.Common.{sym, ◌∙◌}
use Rattle.laws.specs.FirstFault.{none, here, later, is_first, differ, same}
use Rattle.ranges.specs.Ranges.{soft_faults}
use Rattle.ranges.proofs.check_soft.Goals as goal

pub returns-then-soft-n : goal.returns-then-soft-n
returns-then-soft-n c = is_first (soft_faults c.args.n c.args.soft.now) 6 (here (differ _ _ c.if-soft-n.true))

pub returns-then-some_out_of_range : goal.returns-then-some_out_of_range
returns-then-some_out_of_range c =
    is_first (soft_faults c.args.n c.args.soft.now) 7
    (later (same _ _ c.if-soft-n.false) (here (sym c.some_out_of_range.ensures ∙ c.if-some_out_of_range.true)))

pub returns : goal.returns
returns c =
    is_first (soft_faults c.args.n c.args.soft.now) 0
    (later (same _ _ c.if-soft-n.false) (later (sym c.some_out_of_range.ensures ∙ c.if-some_out_of_range.false) none))
