use Rattle.std.proofs.Common.{◌||◌, ltb, get_or, drop, Bool, refl, sym, ap, ◌∙◌}
use mathlib.Core.Bool.{or_assoc, or-false}
use Rattle.std.proofs.Common.{◌+◌}
use Rattle.spec.specs.Faults.{some}
use Rattle.laws.specs.MapBits.{some_at, some_end}
use Rattle.packed_rows.proofs.packing.some_not_bit.Goals as goal

pub loop-b-preserved : goal.loop-b-preserved
loop-b-preserved c =
    let l = c.loop-b in
    let s = c.args.bits.now in
    let v : Bool = ltb 1 (get_or s l.b-index 0) in
    l.invariant ∙ ap (λ (b : Bool). l.found || b) (some_at (ltb 1) 0 s l.b-index v c.loop-b-test.true refl)
    ∙ sym (or_assoc l.found v (some (ltb 1) (drop (l.b-index + 1) s)))

pub returns : goal.returns
returns c =
    let l = c.loop-b in
    sym (l.invariant ∙ ap (λ (b : Bool). l.found || b) (some_end (ltb 1) c.args.bits.now l.b-index c.loop-b-test.false) ∙ or-false l.found)
