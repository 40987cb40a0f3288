use Rattle.std.proofs.Common.{◌%◌, min, ap, ◌∙◌, ap₂}
use Rattle.windows.specs.declared.window.Eight.{Eight}
use Rattle.windows.proofs.Records.{pair_ext}
use Rattle.windows.proofs.Operator.{peek_least}
use Rattle.windows.proofs.top.next_costs.Goals as goal

pub returns : goal.returns
returns c =
    let z = c.least-3.ensures ∙ ap₂ min c.least.ensures c.least-2.ensures
    ∙ ap (λ (y : Eight). min (min y.c0 y.c4) (min y.c2 y.c6)) c.read-a.ensures in
    let o = c.least-6.ensures ∙ ap₂ min c.least-4.ensures c.least-5.ensures
    ∙ ap (λ (y : Eight). min (min y.c1 y.c5) (min y.c3 y.c7)) c.read-a.ensures in
    pair_ext _ _ (z ∙ peek_least c.args.even (c.args.o % 2) c.args.t.now c.args.p 0)
    (o ∙ peek_least c.args.even (c.args.o % 2) c.args.t.now c.args.p 1)
