use Rattle.std.proofs.Common.{◌≡◌, sym, ap, ◌∙◌, Bool, ◌||◌, List, ℕ, ◌+◌, ◌<◌, ◌≤◌, ℤ, pos, length, drop, get_or, arith}
use Rattle.std.proofs.lemmas.Int.{ints, to_z-of_z}
use Rattle.spec.specs.Faults.{some}
use Rattle.spec.specs.Refusals.{out_of_range}
use Rattle.spec.specs.Record.{positions, soft_at, record_soft}
use Rattle.laws.specs.MapBits.{some_turn, some_done}
use Rattle.job_fields.specs.SoftAt.{length_soft_from}
use Rattle.job_refusals.proofs.some_out_of_range.Goals as goal

pub loop-i-preserved : goal.loop-i-preserved
loop-i-preserved c =
    let r = c.args.job in
    let s = r.bytes.now in
    let y = record_soft s in
    let h : c.loop-i.i < length y = omega (arith, length_soft_from s (soft_at s) (positions s), r.laid.n_is, c.loop-i-test.true) in
    let e : c.out_of_range-outside.result ≡ out_of_range c.soft.result = search (arith, ints, to_z-of_z, c.out_of_range-outside.ensures) in
    c.loop-i.invariant ∙ some_turn out_of_range (pos 0) y c.loop-i.i c.loop-i.outside c.out_of_range-outside.result h (e ∙ ap out_of_range c.soft.ensures)

pub returns : goal.returns
returns c =
    let r = c.args.job in
    let s = r.bytes.now in
    let y = record_soft s in
    let h : length y ≤ c.loop-i.i = omega (arith, length_soft_from s (soft_at s) (positions s), r.laid.n_is, c.loop-i-test.false) in
    sym (c.loop-i.invariant ∙ some_done out_of_range y c.loop-i.i c.loop-i.outside h)
