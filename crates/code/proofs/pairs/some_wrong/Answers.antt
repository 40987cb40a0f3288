use Rattle.std.proofs.Common.{◌≡◌, sym, ap, ap₂, ◌∙◌, true, false, ℕ, ◌+◌, ◌*◌, ◌<◌, length, drop, arith}
use Rattle.spec.specs.Code.{pair, pairs_in}
use Rattle.spec.specs.Faults.{some}
use Rattle.spec.specs.Refusals.{wrong_pair}
use Rattle.laws.specs.MapBits.{flags_of}
use Rattle.laws.specs.Pairs.{some_pair, pairs_end}
use Rattle.code.proofs.pairs.some_wrong.Goals as goal

pub returns-then-wrong_pair : goal.returns-then-wrong_pair
returns-then-wrong_pair c =
    let w = wrong_pair (flags_of c.args.n c.args.map.now) in
    let h : 4 * c.loop-i.i + 3 < length c.args.pairs.now = omega (arith, c.requires.1) in
    sym (c.loop-i.invariant ∙ some_pair w c.args.pairs.now (4 * c.loop-i.i) true h
    (sym c.if-wrong_pair.true ∙ c.wrong_pair.ensures ∙ ap₂ (λ (x y : ℕ). w (pair x y)) c.named-f.ensures.0 c.named-e.ensures.0))

pub loop-i-preserved : goal.loop-i-preserved
loop-i-preserved c =
    let w = wrong_pair (flags_of c.args.n c.args.map.now) in
    let h : 4 * c.loop-i.i + 3 < length c.args.pairs.now = omega (arith, c.requires.1) in
    let e : 4 * c.loop-i.i + 4 ≡ 4 * (c.loop-i.i + 1) = omega arith in
    c.loop-i.invariant ∙ some_pair w c.args.pairs.now (4 * c.loop-i.i) false h
    (sym c.if-wrong_pair.false ∙ c.wrong_pair.ensures ∙ ap₂ (λ (x y : ℕ). w (pair x y)) c.named-f.ensures.0 c.named-e.ensures.0)
    ∙ ap (λ (k : ℕ). some w (pairs_in (drop k c.args.pairs.now))) e

pub returns : goal.returns
unfolding some
returns c =
    sym (c.loop-i.invariant ∙ ap (some (wrong_pair (flags_of c.args.n c.args.map.now))) (pairs_end c.args.pairs.now (4 * c.loop-i.i) (omega (arith, c.requires.1))))
