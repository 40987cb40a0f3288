-- One bin more, and all.
use Rattle.std.proofs.Common.{◌≡◌, length, subst, ℤ, w32, arith}
use mir.ValLaws.{to_z-of_z}
use Rattle.list_words.specs.Hits.{hits}
use Rattle.list_words.proofs.Counting.{counting_turn, counting_done}
use Rattle.list_words.proofs.marks.count_block.Goals as goal

pub loop-v-preserved : goal.loop-v-preserved
loop-v-preserved c = counting_turn c.loop-v.invariant c.loop-v-test.true c.reached-found.ensures.0 c.reached-found.ensures.1

pub returns : goal.returns
returns c = (
  omega (arith, c.loop-v.invariant.near, c.loop-v.invariant.few),
  λ zs q a e.
      subst (λ (z : ℤ). c.loop-v.found ≡ length (hits z q zs)) (to_z-of_z w32 c.args.mark c.ranges.mark)
      (counting_done c.loop-v.invariant (omega arith) zs q a e),
)
