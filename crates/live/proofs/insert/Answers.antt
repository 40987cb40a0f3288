use Rattle.std.proofs.Common.{◌≡◌, ◌+◌, ◌-◌, ◌∙◌, arith, length-set}
use Rattle.live.proofs.Insertion.{moved_start, moved_turn, moved_here, moved_zero}
use Rattle.live.proofs.insert.Goals as goal

pub loop-k-init : goal.loop-k-init
loop-k-init c = moved_start c.args.a.now c.args.n c.args.v

pub loop-k-preserved : goal.loop-k-preserved
loop-k-preserved c =
    let k = c.loop-k.k in
    let e : k ≡ k - 1 + 1 = omega arith in
    moved_turn c.args.a.now c.loop-k.a c.args.n c.args.v (omega arith) (k - 1 + 1) (k - 1) (omega arith) (rw e at c.loop-k.invariant) c.if-x-v.false

pub returns-then-x-v : goal.returns-then-x-v
returns-then-x-v c =
    let k = c.loop-k.k in
    let e : k ≡ k - 1 + 1 = omega arith in (
      simp length-set (c.loop-k.invariant.long ∙ c.requires.1),
      moved_here c.args.a.now c.loop-k.a c.args.n c.args.v (omega arith) (k - 1 + 1) (k - 1) (omega arith) (rw e at c.loop-k.invariant) c.requires.2 c.if-x-v.true,
    )

pub returns : goal.returns
returns c =
    let e : c.loop-k.k ≡ 0 = omega arith in (
      simp length-set (c.loop-k.invariant.long ∙ c.requires.1),
      moved_zero c.args.a.now c.loop-k.a c.args.n c.args.v (omega arith) (rw e at c.loop-k.invariant),
    )
