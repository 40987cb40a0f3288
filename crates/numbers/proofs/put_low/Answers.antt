use Rattle.std.proofs.Common.{◌≡◌, ℕ, suc, ◌+◌, ◌-◌, ◌/◌, ◌%◌, ◌<◌, ◌∷◌, ap, ◌∙◌, sym, arith}
use borrow.Rule.Slice.PartMut.{mid_len}
use Rattle.spec.specs.RecordOf.{low_first}
use Rattle.place.specs.Turns.{one_more, put_all}
use Rattle.numbers.proofs.put_low.Goals as goal

-- one byte, and those behind it
turn : (count i x : ℕ) → i < count → low_first (count - i) x ≡ x % 256 ∷ low_first (count - (i + 1)) (x / 256)
turn count i x h = let e : count - i ≡ suc (count - (i + 1)) = omega arith in rw e

pub loop-b-preserved : goal.loop-b-preserved
loop-b-preserved c =
    let a = c.args in
    let l = c.loop-b in
    let within : l.b-index < a.count = omega (arith, mid_len a.at (a.at + a.count) a.out.now c.requires) in
    one_more _ a.at _ a.out.now l.b-items l.auto.b-items l.b-index _ l.invariant _ _ c.loop-b-test.true
    (turn a.count l.b-index l.rest within ∙ ap (λ b. b ∷ low_first (a.count - (l.b-index + 1)) (l.rest / 256)) (sym c.low_byte.ensures))

pub returns : goal.returns
returns c =
    let a = c.args in
    let l = c.loop-b in
    let none : a.count - l.b-index ≡ 0 = omega (arith, mid_len a.at (a.at + a.count) a.out.now c.requires) in (
      put_all _ a.at _ a.out.now l.b-items l.auto.b-items l.b-index _ l.invariant c.loop-b-test.false (ap (λ k. low_first k l.rest) none) (omega arith) c.requires,
      omega arith,
    )
