use Rattle.std.proofs.Common.{◌∙◌, ap₂}
use Rattle.windows.specs.declared.window.Eight.{Eight}
use Rattle.windows.specs.Op.{wrap_of, entry, sixteen, flipped}
use Rattle.windows.specs.Start.{free_last, woven}
use Rattle.windows.proofs.Operator.{sixteen_wrote, first_is}
use Rattle.windows.proofs.start.first_node.Goals as goal

pub returns : goal.returns
returns c = sixteen_wrote _ _ _ _ _
    (c.first_window.ensures
    ∙ ap₂ (λ (a b : Eight). woven (free_last (sixteen (wrap_of c.args.arikan (entry a) (entry b) 0)))
    (free_last (sixteen (wrap_of c.args.arikan (entry (flipped 1 a)) (entry b) 0))))
    c.read_odd-a.ensures c.read_odd-b.ensures
    ∙ first_is c.args.t.now c.args.pa c.args.pb c.args.arikan)
    c.store.ensures
