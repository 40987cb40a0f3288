use Rattle.std.proofs.Common.{ap, ◌∙◌}
use Rattle.windows.specs.Op.{rearranged, order_at}
use Rattle.windows.proofs.Operator.{ordered_is}
use Rattle.windows.proofs.kernel.combine.Goals as goal

pub returns : goal.returns
returns c = c.ordered.ensures ∙ ap (rearranged (order_at c.args.arikan)) c.convolved.ensures ∙ ordered_is c.args.arikan _ _
