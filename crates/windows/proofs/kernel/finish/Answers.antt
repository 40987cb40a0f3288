use Rattle.std.proofs.Common.{ap, ◌∙◌}
use Rattle.windows.specs.Op.{rearranged, order_at, masked}
use Rattle.windows.proofs.Finishing.{finish_wrote}
use Rattle.windows.proofs.kernel.finish.Goals as goal

pub returns : goal.returns
returns c = finish_wrote c.args.arikan c.args.left c.args.to c.args.t.now _ _
    (c.ends.ensures
    ∙ ap (masked c.args.left) (c.ordered.ensures ∙ ap (rearranged (order_at c.args.arikan)) c.window_at.ensures))
    c.store.ensures
