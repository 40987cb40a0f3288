use Rattle.std.proofs.Common.{arith, ℤ, ◌<◌, ◌≡◌}
use lib.Signed.{mag}
use mir.Syntax.{w16}
use mir.Val.{to_z, of_z}
use mir.ValLaws.{to_z-of_z}
use Rattle.tables.proofs.Rows.{rows_more}
use Rattle.tables.proofs.start.lay_costs.Goals as goal

pub loop-i-preserved : goal.loop-i-preserved
loop-i-preserved c =
    let back : (y : ℤ) → mag y < 32768 → to_z w16 (of_z w16 y) ≡ y = λ y h. to_z-of_z w16 y (record { sfits = h }) in
    let a = back c.taken_at-a.result c.taken_at-a.type_inv in
    let b = back c.taken_at-b.result c.taken_at-b.type_inv in
    let u = back c.taken_at-c.result c.taken_at-c.type_inv in
    let v = back c.taken_at-d.result c.taken_at-d.type_inv in
    rows_more _ _ _ _ _ _ _ _ _ (omega arith) c.loop-i.invariant c.first_costs.ensures (λ m _. cc)
