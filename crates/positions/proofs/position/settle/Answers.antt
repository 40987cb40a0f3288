use Rattle.std.proofs.Common.{◌≡◌, ◌*◌, ◌∙◌, arith, length, take, drop, take_at, drop_at}
use lib.Seq.{length-take-le}
use Rattle.positions.proofs.position.settle.Goals as goal

pub returns : goal.returns
returns c =
    let a = c.args in
    let f = c.requires.0 in
    let b₁ = c.note.new.b in
    let top = c.top_bits.new.b in
    let k : length (take (3 * a.h) b₁) ≡ 3 * a.h = length-take-le (3 * a.h) b₁ (omega (arith, f.behind, f.room, c.note.auto.b)) in
    let e : length top ≡ 3 * a.h = c.top_bits.auto.b ∙ k in
    record {
      parents = c.lineage.new.parents;
      bits = c.lineage.new.bits;
      lineage = c.lineage.ensures;
      b₁ = b₁;
      noted = c.note.ensures;
      cut = c.cut_slots.ensures;
      top = rw (take_at top (drop (3 * a.h) b₁) (3 * a.h) e) c.top_bits.ensures;
      history = drop_at top (drop (3 * a.h) b₁) (3 * a.h) e;
    }
