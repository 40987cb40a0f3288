use Rattle.std.proofs.Common.{◌%◌, ap, ◌∙◌}
use Rattle.windows.specs.declared.window.Eight.{Eight}
use Rattle.windows.specs.Op.{sixteen, entry}
use Rattle.windows.proofs.Operator.{sixteen_wrote, even_bottom, last_bottom}
use Rattle.windows.proofs.bottom.bottom.Goals as goal
use Rattle.windows.proofs.bottom.bottom.Goals.{then-last, else-last}

pub returns : goal.returns
returns c = elim c.if-last.branch [
  | then-last w ↦ rw w.if-last.true
      (sixteen_wrote _ _ _ _ _ (w.r-is ∙ rw w.from.ensures at w.by_first-r.ensures ∙ last_bottom c.args.t.now c.args.p c.args.z) c.store.ensures)
  | else-last w ↦ rw w.if-last.false
      (sixteen_wrote _ _ _ _ _
      (w.r-is ∙ w.doubled-r.ensures ∙ ap (λ (y : Eight). sixteen (λ x. entry y (x % 8))) w.read_even.ensures
      ∙ even_bottom c.args.t.now c.args.p c.args.z)
      c.store.ensures)
]
