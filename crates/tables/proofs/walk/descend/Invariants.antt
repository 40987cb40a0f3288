use Rattle.std.proofs.Common.{◌≡◌, ◌^◌, length}
use Rattle.laws.specs.Nodes.{phase}
use Rattle.tables.specs.Walk.{Descent}
use Rattle.tables.proofs.walk.descend.Given as goal

abbrev pub invariant-loop-d : goal.invariant-loop-d
invariant-loop-d l = record {
  width : l.w ≡ 2 ^ l.d;
  at : l.p ≡ phase l.d l.n;
  same : length l.b ≡ length l.fn.b;
  down : Descent l.shape.arikan l.shape.deep l.shape.l l.shape.h l.shape.count l.n l.d l.slots l.fn.b l.b;
}
