use Rattle.std.proofs.Common.{take}
use Rattle.live.proofs.Turns.{branch_two}
use Rattle.live.proofs.put_branches.Goals as goal

pub returns-then-frozen-eq0 : goal.returns-then-frozen-eq0
returns-then-frozen-eq0 c =
    branch_two c.args.l c.args.frozen c.args.first c.args.one (take c.args.n c.args.a.now) c.if-frozen-eq0.true c.put-m.ensures c.put.ensures
