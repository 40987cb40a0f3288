use Rattle.std.proofs.Common.{sym, arith}
use Rattle.std.proofs.Math.Seq.{take-nil}
use Rattle.live.specs.Rising.{none₂}
use Rattle.live.proofs.Turns.{children_turn}
use Rattle.live.proofs.put_children.Goals as goal

pub loop-i-init : goal.loop-i-init
loop-i-init c = record { long = c.requires.3; few = omega arith; are = sym (take-nil c.args.l); up = none₂ }

pub loop-i-preserved : goal.loop-i-preserved
loop-i-preserved c =
    let s = c.args in
    let p = c.put_branches-m.ensures in
    record {
      long = p.long;
      few = p.few;
      are =
          children_turn s.frozen s.l c.loop-i.i c.lex-x.result c.child_place-place.result c.entry-first.result c.entry-one.result
          s.entries.now s.bits.now s.firsts.now s.ones.now _ _
          c.loop-i.invariant.are c.lex-x.ensures.1 c.child_place-place.ensures.0 c.entry-first.ensures c.entry-one.ensures p.are;
      up = p.up;
    }
