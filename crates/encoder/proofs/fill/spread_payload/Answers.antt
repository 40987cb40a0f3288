use Rattle.std.proofs.Common.{sym, ◌∙◌, ◌<◌, length, arith}
use Rattle.laws.specs.MapBits.{length_flags, flag_at}
use Rattle.encoder.proofs.Turns.{payload_left, spread_bit, spread_zero, spread_done}
use Rattle.encoder.proofs.fill.spread_payload.Goals as goal
use Rattle.encoder.proofs.fill.spread_payload.Goals.{then-flag-eq0, else-flag-eq0}

pub bounds-payload-j : goal.bounds-payload-j
bounds-payload-j c =
    let n = length c.args.input.now in
    let map = c.args.map.now in
    let h : c.loop-i.i < n = omega arith in
    payload_left c.loop-i.invariant (length_flags n map c.requires.0) h (flag_at n map c.loop-i.i h ∙ sym c.flag.ensures ∙ c.if-flag-eq0.true)

pub loop-i-preserved : goal.loop-i-preserved
loop-i-preserved c =
    let n = length c.args.input.now in
    let map = c.args.map.now in
    let h : c.loop-i.i < n = omega arith in
    let counted = length_flags n map c.requires.0 in
    let f = flag_at n map c.loop-i.i h ∙ sym c.flag.ensures in
    elim c.if-flag-eq0.branch [
      | then-flag-eq0 w ↦ rw (w.input-is, w.j-is) (spread_bit c.loop-i.invariant counted h (f ∙ w.if-flag-eq0.true))
      | else-flag-eq0 w ↦ rw (w.input-is, w.j-is) (spread_zero c.loop-i.invariant counted h (λ e. w.if-flag-eq0.false (sym f ∙ e)))
    ]

pub returns : goal.returns
returns c =
    let n = length c.args.input.now in
    spread_done c.loop-i.invariant (length_flags n c.args.map.now c.requires.0) (omega arith)
