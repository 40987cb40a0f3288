-- The one entry that is cut off has the least cost of all that do not stay.
use Rattle.std.proofs.Common.{ℕ, ◌+◌, List, take, drop, replicate, leb, ap₂, ◌∙◌, arith, rules}
use Rattle.std.proofs.Math.Seq.{take-take}
use Rattle.spec.specs.Decoder.{sort_by}
use Rattle.live.specs.Entries.{children_of}
use Rattle.live.specs.Lists.{entries, Holds}
use Rattle.live.specs.Lost.{lost_with}
use Rattle.live.proofs.Losing.{rising_sort, one_more}
use Rattle.live.proofs.Steps.{position}
use Rattle.live.proofs.Live.clear.Goals as goal

pub returns : goal.returns
returns c =
    let s = c.args in
    let sp = c.split.ensures in
    let ks = children_of 0 (entries s.self) (replicate 32 0) s.zeros.now s.ones.now s.self.count in
    let h : Holds c.cut.result s.l (take s.l (sort_by leb ks)) = rw (sp.holds.are, take-take s.l (s.l + 1) (sort_by leb ks) (omega arith)) at c.cut.ensures.holds in
    position 0 s.l (replicate 32 0) s.zeros.now s.ones.now s.self c.cut.result (search rules) (omega arith) h
    (c.cut.ensures.lost
    ∙ ap₂ (λ (a : ℕ) (ys : List ℕ). lost_with a (drop s.l ys)) sp.lost sp.holds.are
    ∙ one_more s.l s.self.lost (rising_sort ks))
