use Rattle.std.proofs.Common.{arith, ap}
use Rattle.std.proofs.Math.Nat.{zero-add}
use Rattle.windows.specs.declared.top.Pair.{Pair}
use Rattle.tables.proofs.Reading.{costs_more}
use Rattle.tables.proofs.top.top_costs.Goals as goal

pub top_cost-c-requires : goal.top_cost-c-requires
top_cost-c-requires c = (
  c.requires.0.long,
  c.requires.0.words,
  c.requires.0.bytes,
  rw (zero-add c.loop-r.r) at (c.requires.0.windows.named c.loop-r.r c.loop-r-test.true),
  c.requires.0.odds.named _ c.loop-r-test.true,
)

pub loop-r-preserved : goal.loop-r-preserved
loop-r-preserved c = record {
  zeros = costs_more c.args.n _ _ _ _ _ _ _ _ _ _ _ c.after_odd_bit-even.ensures (omega arith)
      (ap (λ (q : Pair). q.zero) c.top_cost-c.ensures) c.loop-r.invariant.zeros;
  ones = costs_more c.args.n _ _ _ _ _ _ _ _ _ _ _ c.after_odd_bit-even.ensures (omega arith)
      (ap (λ (q : Pair). q.one) c.top_cost-c.ensures) c.loop-r.invariant.ones;
}
