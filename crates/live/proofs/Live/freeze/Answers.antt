-- There are no more children than paths, so none is lost.
use Rattle.std.proofs.Common.{ℕ, List, sym, ap, ◌∙◌, arith, rules}
use Rattle.live.specs.Lists.{entries}
use Rattle.live.specs.Lost.{lost_with}
use Rattle.live.proofs.Losing.{none_lost}
use Rattle.live.proofs.Steps.{position}
use Rattle.live.proofs.Live.freeze.Goals as goal

pub returns : goal.returns
returns c =
    let s = c.args in
    position 1 s.l s.bits.now s.costs.now s.costs.now s.self _ (search rules) (omega arith) c.children.ensures.0
    (c.children.ensures.1 ∙ ap (λ (xs : List ℕ). lost_with s.self.lost xs) (sym (none_lost 0 s.l (entries s.self) s.bits.now s.costs.now s.costs.now s.self.count (omega arith))))
