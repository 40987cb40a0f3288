use Rattle.std.proofs.Common.{◌≡◌, ◌+◌, ◌-◌, take, ◌∙◌, arith}
use Rattle.live.proofs.Insertion.{full_out, full_in}
use Rattle.live.proofs.Turns.{rising_less, filled, filled_all}
use Rattle.live.proofs.put.Goals as goal

pub returns-then-a-k : goal.returns-then-a-k
returns-then-a-k c =
    let a = c.args in
    let e : a.l ≡ a.n = omega arith in
    filled a.a.now (take a.n a.a.now) a.n a.l a.v c.requires.3 c.requires.0 c.requires.4
    (rw e (full_out a.a.now a.n (a.n - 1) a.v (omega arith) (omega arith) c.requires.4 c.if-a-k.true))

pub insert-requires : goal.insert-requires
insert-requires c = (omega arith, c.requires.3, rising_less c.args.n (c.args.n - 1) c.args.a.now (omega arith) c.requires.4)

pub returns-then-n-l : goal.returns-then-n-l
returns-then-n-l c =
    let a = c.args in
    let e : a.l ≡ a.n = omega arith in
    let f : a.n - 1 + 1 ≡ a.n = omega arith in
    filled c.insert.new.a (take a.n a.a.now) a.n a.l a.v c.insert.ensures.0 c.requires.0 c.requires.4
    (rw e ((rw f at c.insert.ensures.1) ∙ full_in a.a.now a.n (a.n - 1) a.v (omega arith) (omega arith) c.if-a-k.false))

pub returns : goal.returns
returns c =
    let a = c.args in
    filled_all c.insert-2.new.a (take a.n a.a.now) (a.n + 1) a.l a.v c.insert-2.ensures.0 (omega arith) c.requires.4 c.insert-2.ensures.1
