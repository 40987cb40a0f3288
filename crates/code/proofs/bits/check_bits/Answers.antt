-- At each return the tests that were passed, and the one that was not.
use Rattle.std.proofs.Common.{sym, ◌∙◌}
use Rattle.laws.specs.FirstFault.{none, here, later, is_first, differ, same}
use Rattle.code.specs.Given.{bit_faults}
use Rattle.code.proofs.bits.check_bits.Goals as goal

pub returns-then-s-n : goal.returns-then-s-n
returns-then-s-n c = is_first (bit_faults c.args.n c.args.s.now) 6 (here (differ _ _ c.if-s-n.true))

pub returns-then-above_one_soon : goal.returns-then-above_one_soon
returns-then-above_one_soon c =
    is_first (bit_faults c.args.n c.args.s.now) 11 (later (same _ _ c.if-s-n.false) (here (sym c.above_one_soon.ensures ∙ c.if-above_one_soon.true)))

pub returns : goal.returns
returns c =
    is_first (bit_faults c.args.n c.args.s.now) 0 (later (same _ _ c.if-s-n.false) (later (sym c.above_one_soon.ensures ∙ c.if-above_one_soon.false) none))
