use Rattle.std.proofs.Common.{◌%◌, false, ap₂, ◌∙◌, arith}
use Rattle.windows.specs.declared.window.Eight.{Eight}
use Rattle.windows.specs.Op.{wrap_of, entry, sixteen, flipped}
use Rattle.windows.proofs.Operator.{node_wrote}
use Rattle.windows.proofs.kernel.node.Goals as goal

pub returns : goal.returns
returns c = node_wrote c.args.even (c.args.e % 2) (c.args.oa % 2) (c.args.ob % 2) c.args.pa c.args.pb c.args.to
    c.args.t.now _ (omega arith) _
    (c.lift.ensures
    ∙ ap₂ (λ (a b : Eight). sixteen (wrap_of false (entry (flipped (c.args.e % 2) a)) (entry b) 0)) c.read-a.ensures
    c.read-b.ensures)
    c.store.ensures
