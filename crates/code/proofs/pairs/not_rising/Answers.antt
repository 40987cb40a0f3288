use Rattle.std.proofs.Common.{◌≡◌, sym, ap, ◌∙◌, true, false, ℕ, ◌+◌, ◌-◌, ◌*◌, ◌<◌, length, drop, arith}
use Rattle.spec.specs.Code.{pairs_in}
use Rattle.spec.specs.Refusals.{not_rising}
use Rattle.laws.specs.Pairs.{rising_pair, rising_end}
use Rattle.code.proofs.pairs.not_rising.Goals as goal

pub returns-then-not-rises : goal.returns-then-not-rises
returns-then-not-rises c =
    let h : 4 * c.loop-i.i + 3 < length c.args.pairs.now = omega (arith, c.requires) in
    sym (c.loop-i.invariant ∙ rising_pair c.args.pairs.now (4 * c.loop-i.i) false (omega arith) h (sym c.if-not-rises.true ∙ c.rises.ensures))

pub loop-i-preserved : goal.loop-i-preserved
loop-i-preserved c =
    let h : 4 * c.loop-i.i + 3 < length c.args.pairs.now = omega (arith, c.requires) in
    let e : 4 * c.loop-i.i + 4 - 4 ≡ 4 * (c.loop-i.i + 1) - 4 = omega arith in
    c.loop-i.invariant ∙ rising_pair c.args.pairs.now (4 * c.loop-i.i) true (omega arith) h (sym c.if-not-rises.false ∙ c.rises.ensures)
    ∙ ap (λ (k : ℕ). not_rising (pairs_in (drop k c.args.pairs.now))) e

pub returns : goal.returns
returns c = sym (c.loop-i.invariant ∙ rising_end c.args.pairs.now (4 * c.loop-i.i) (omega arith) (omega (arith, c.requires)))
