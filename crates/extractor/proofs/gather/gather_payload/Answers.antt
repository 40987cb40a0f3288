use Rattle.std.proofs.Common.{refl, sym, ◌∙◌, ◌<◌, length, arith}
use Rattle.laws.specs.MapBits.{length_flags, flag_at}
use Rattle.extractor.proofs.Turns.{room_left, gather_bit, gather_none, gather_done}
use Rattle.extractor.proofs.gather.gather_payload.Goals as goal
use Rattle.extractor.proofs.gather.gather_payload.Goals.{then-flag-eq0, else-flag-eq0}

pub bounds-payload-j : goal.bounds-payload-j
bounds-payload-j c =
    let n = length c.args.input.now in
    let map = c.args.map.now in
    let h : c.loop-i.i < n = omega arith in
    let r = room_left c.loop-i.invariant (length_flags n map c.requires.0) refl h (flag_at n map c.loop-i.i h ∙ sym c.flag.ensures ∙ c.if-flag-eq0.true) in
    omega (arith, r)

pub loop-i-preserved : goal.loop-i-preserved
loop-i-preserved c =
    let n = length c.args.input.now in
    let map = c.args.map.now in
    let h : c.loop-i.i < n = omega arith in
    let counted = length_flags n map c.requires.0 in
    let f = flag_at n map c.loop-i.i h ∙ sym c.flag.ensures in
    elim c.if-flag-eq0.branch [
      | then-flag-eq0 w ↦ rw (w.payload-is, w.j-is) (gather_bit c.loop-i.invariant counted refl h (f ∙ w.if-flag-eq0.true))
      | else-flag-eq0 w ↦ rw (w.payload-is, w.j-is) (gather_none c.loop-i.invariant counted refl h (λ e. w.if-flag-eq0.false (sym f ∙ e)))
    ]

pub returns : goal.returns
returns c =
    let n = length c.args.input.now in
    gather_done c.loop-i.invariant (length_flags n c.args.map.now c.requires.0) refl (omega arith)
