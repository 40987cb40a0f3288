use Rattle.std.proofs.Common.{◌≡◌, suc, ◌+◌, ◌-◌, ◌*◌, ◌<◌, ◌∷◌, ℕ, List, take, drop, refl, sym, subst, ap, ap₂, ◌∙◌, arith, length-take, length-drop}
use borrow.Rule.Slice.PartMut.{mid_len}
use Rattle.spec.specs.Bits.{Bits, packed}
use Rattle.place.specs.Turns.{one_more, put_all}
use Rattle.laws.specs.BitLaws.{bits_take, bits_drop}
use Rattle.laws.specs.PackedRows.{packed_each}
use Rattle.packed_rows.specs.Turns.{packed_done}
use Rattle.packed_rows.proofs.packing.put_packed.Goals as goal

-- one byte, and those of the bits behind it
next_byte : (w count i x : ℕ) (u first rest : List ℕ) → i < count → first ≡ take w u → rest ≡ drop w u → x ≡ packed first
    → packed_each w (count - i) u ≡ x ∷ packed_each w (count - (i + 1)) rest
unfolding packed_each
next_byte w count i x u first rest h f r e =
    let k : count - i ≡ suc (count - (i + 1)) = omega arith in
    rw k (ap₂ (λ (y : ℕ) (l : List ℕ). y ∷ packed_each w (count - (i + 1)) l) (sym (e ∙ ap packed f)) (sym r))

pub packed_bits-requires : goal.packed_bits-requires
packed_bits-requires c = rw c.split_at.ensures.front (bits_take c.loop-x.invariant.bits c.args.w, omega (arith, length-take c.args.w c.loop-x.left.now))

pub loop-x-preserved : goal.loop-x-preserved
loop-x-preserved c =
    let a = c.args in
    let l = c.loop-x in
    let i = l.x-index in
    let parts = c.split_at.ensures in
    let within : i < a.count = omega (arith, mid_len a.at (a.at + a.count) a.out.now c.requires.3) in
    let less : a.count - i ≡ suc (a.count - (i + 1)) = omega arith in
    record {
      bits = subst Bits (sym parts.back) (bits_drop l.invariant.bits a.w);
      long = rw parts.back (length-drop a.w l.left.now ∙ omega (arith, l.invariant.long ∙ ap (λ j. j * a.w) less));
      bytes =
          one_more _ a.at _ a.out.now l.x-items l.auto.x-items i _ l.invariant.bytes _ _ c.loop-x-test.true
          (next_byte a.w a.count i c.packed_bits.result l.left.now _ _ within parts.front parts.back c.packed_bits.ensures);
    }

pub returns : goal.returns
returns c =
    let a = c.args in
    let l = c.loop-x in
    let none : a.count - l.x-index ≡ 0 = omega (arith, mid_len a.at (a.at + a.count) a.out.now c.requires.3) in (
      put_all _ a.at _ a.out.now l.x-items l.auto.x-items l.x-index _ l.invariant.bytes c.loop-x-test.false (packed_done a.w (a.count - l.x-index) l.left.now none) (omega arith) c.requires.3,
      refl,
    )
