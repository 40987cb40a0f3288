-- At each return the tests that were passed, and the one that was not.
use Rattle.std.proofs.Common.{lt-ltb, le-ltb}
use Rattle.laws.specs.FirstFault.{none, here, later, is_first, below, above, inside}
use Rattle.ranges.specs.Ranges.{range_faults}
use Rattle.ranges.proofs.check_range.Goals as goal

pub returns-then-l-lt1 : goal.returns-then-l-lt1
returns-then-l-lt1 c = is_first (range_faults c.args.n c.args.l c.args.p) 4 (here (below 1 32 _ c.if-l-lt1.true))

pub returns-then-l-gt32 : goal.returns-then-l-gt32
returns-then-l-gt32 c = is_first (range_faults c.args.n c.args.l c.args.p) 4 (here (above 1 32 _ c.if-l-gt32.true))

pub returns-then-n-p : goal.returns-then-n-p
returns-then-n-p c =
    is_first (range_faults c.args.n c.args.l c.args.p) 5
    (later (inside 1 32 _ c.if-l-lt1.false c.if-l-gt32.false) (here (lt-ltb _ _ c.if-n-p.true)))

pub returns : goal.returns
returns c =
    is_first (range_faults c.args.n c.args.l c.args.p) 0
    (later (inside 1 32 _ c.if-l-lt1.false c.if-l-gt32.false) (later (le-ltb _ _ c.if-n-p.false) none))
