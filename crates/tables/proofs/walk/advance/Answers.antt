use Rattle.std.proofs.Common.{arith, ◌∙◌}
use Rattle.tables.proofs.Ending.{advanced, climbs, ends_at}
use Rattle.tables.proofs.walk.advance.Goals as goal

pub turn-requires : goal.turn-requires
turn-requires c = ends_at c.args.arikan _ _ _ _ _ _ _ _ _ _ _ _ _ c.requires c.reach-end.ensures.0 _ (omega arith) c.reach-end.ensures.1

pub ascend-requires : goal.ascend-requires
ascend-requires c = record {
  climbs = climbs c.args.arikan _ _ _ _ _ _ _ _ _ _ _ _ _ c.requires c.reach-end.ensures.0 _ _ _ (omega arith) (omega arith);
  named = c.turn.ensures.0;
}

pub returns : goal.returns
returns c = (
  c.ascend.ensures.0,
  (λ j q. c.ascend.ensures.1 j q ∙ c.turn.ensures.1 j q),
  advanced _ _ _ _ _ _ _ _ _ _ _ _ _ _ c.requires c.reach-end.ensures.0 _ _ _ _ _ _ c.descend.ensures c.turn.ensures.2 c.ascend.ensures.2,
)
