use Rattle.std.proofs.Common.{arith, ◌≡◌, ◌∙◌}
use Rattle.tables.proofs.Walks.{descend_more, field_cases, fits, phase_next, pow_next}
use Rattle.tables.proofs.walk.descend.Goals as goal

pub push-requires : goal.push-requires
push-requires c =
    let i = c.loop-d.invariant in (
      fits c.args.shape.arikan _ _ _ _ _ _ _ _ _ _ _ c.requires.0 c.loop-d-test.true i.width i.same,
      c.requires.0.odds c.loop-d.d (omega (arith, c.requires.0.far)),
      c.requires.0.few,
      rw c.field.ensures (field_cases _ _),
    )

pub loop-d-preserved : goal.loop-d-preserved
loop-d-preserved c =
    let i = c.loop-d.invariant in
    record {
      width = omega (arith, pow_next c.loop-d.d);
      at = phase_next c.loop-d.d c.args.n _ i.at;
      same = c.push.ensures.same ∙ i.same;
      down = descend_more _ _ _ _ _ _ _ _ _ _ _ _ _ _ _ c.requires.0 c.loop-d-test.true i.width i.at c.field.ensures
          i.down c.push.ensures;
    }

pub returns : goal.returns
returns c =
    let e : c.loop-d.d ≡ c.args.e = omega arith in
    rw e at c.loop-d.invariant.down
