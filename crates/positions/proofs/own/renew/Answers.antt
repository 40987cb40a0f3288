use Rattle.std.proofs.Common.{refl, sym, subst, ◌+◌, ◌-◌, ◌*◌, arith, length, take, drop}
use Rattle.positions.specs.Own.{OwnFits}
use Rattle.positions.proofs.Keeping.{part_is, renewed}
use Rattle.positions.proofs.own.renew.Goals as goal

pub returns : goal.returns
returns c =
    let a = c.args in
    renewed a.l a.h a.n a.i a.kept.seen a.kept.held a.count (3 * a.h + a.l * a.i) (a.l * a.n) (a.n * a.count) a.b.now c.renew_rows.new.rows
    (subst (OwnFits a.l a.h a.n a.i a.kept.seen a.kept.held (3 * a.h + a.l * a.i) (length a.b.now)) (sym c.renew_rows.auto.rows) c.requires.0)
    c.requires.1 refl refl _ (take (length a.b.now - 3 * a.h) (drop (3 * a.h) a.b.now)) c.copy.new.to (part_is (3 * a.h) a.b.now) (omega arith)
    c.copy.ensures c.renew_rows.ensures
