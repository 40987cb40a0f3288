-- The column of a position names a bin.
use Rattle.std.proofs.Common.{◌≡◌, length, refl, ◌∙◌, sym, w16, arith}
use lib.ListN.{length-map}
use mir.ValLaws.{to_z-of_z}
use Rattle.spec.specs.Score.{saturated, taken}
use Rattle.laws.specs.ListCost.{all_at}
use Rattle.correlations.proofs.Binning.{binning_none, binning_turn}
use Rattle.correlations.proofs.bins.bin_positions.Goals as goal

pub loop-i-init : goal.loop-i-init
loop-i-init c = binning_none c.args.cols.now c.args.word.now (taken c.args.soft.now) (length c.args.bins.now) c.fill.new.self (c.fill.ensures.after (λ y q. q))

pub bounds-bins-c : goal.bounds-bins-c
bounds-bins-c c = omega (arith, all_at 0 c.requires.2 c.loop-i.i (omega arith), c.loop-i.invariant.kept)

pub bounds-bins-c-in-loop-i : goal.bounds-bins-c-in-loop-i
bounds-bins-c-in-loop-i c = omega (arith, all_at 0 c.requires.2 c.loop-i.i (omega arith), c.loop-i.invariant.kept)

pub loop-i-preserved : goal.loop-i-preserved
loop-i-preserved c =
    let y = taken c.args.soft.now in
    let e : length c.args.soft.now ≡ length y = sym (length-map c.args.soft.now saturated) in
    binning_turn c.args.cols.now c.args.word.now y (c.requires.0 ∙ e) (c.requires.1 ∙ e) c.loop-i.invariant (omega arith) refl
    (to_z-of_z w16 c.taken_at.result (record { sfits = c.taken_at.type_inv }) ∙ c.taken_at.ensures) c.add_signed.ensures
