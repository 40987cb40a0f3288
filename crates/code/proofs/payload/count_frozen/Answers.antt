use Rattle.std.proofs.Common.{◌≡◌, refl, sym, ap, ◌∙◌, List, ℕ, ◌+◌, ◌*◌, ◌<◌, length, get_or, take, take_all, arith}
use Rattle.std.specs.Int.Count.{ones}
use Rattle.spec.specs.Bits.{unpacked}
use Rattle.spec.specs.Code.{clear}
use Rattle.laws.specs.MapBits.{ones_more}
use Rattle.code.proofs.payload.count_frozen.Goals as goal

pub loop-x-init : goal.loop-x-init
unfolding unpacked
loop-x-init c = (omega arith, refl)

pub loop-x-preserved : goal.loop-x-preserved
loop-x-preserved c =
    let s : List ℕ = c.args.map.now in
    let i : ℕ = c.loop-x.x-index in
    let b : get_or s i 0 < 256 = omega (arith, c.type_inv.map i) in
    let e : c.loop-x.k + ones (get_or s i 0) + clear (unpacked (take (i + 1) s)) ≡ 8 * (i + 1)
    = ones_more s i c.loop-x.k (omega arith) b c.loop-x.invariant.1 in
    (omega arith, ap (λ (r : ℕ). c.loop-x.k + r + clear (unpacked (take (i + 1) s))) c.ones_of-k.ensures.0 ∙ e)

pub returns : goal.returns
returns c =
    let s : List ℕ = c.args.map.now in
    let e : take c.loop-x.x-index s ≡ s = take_all c.loop-x.x-index s (omega arith) in
    let q : c.loop-x.x-index ≡ length s = omega arith in
    rw (sym q) (rw e at c.loop-x.invariant.1)
