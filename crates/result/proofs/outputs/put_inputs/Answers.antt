-- Rows of four positions, or of whole bytes.
use Rattle.std.proofs.Common.{◌≡◌, sym, ap, ◌∙◌, List, ℕ, ◌*◌, ◌≤◌, length, arith}
use Rattle.spec.specs.Record.{exponent, positions}
use Rattle.spec.specs.ResultRecord.{row_count, packed_part, result_inputs}
use Rattle.place.specs.Put.{put_same}
use Rattle.laws.specs.PackedRows.{bits_of_each}
use Rattle.laws.specs.ResultReading.{ShapedResult}
use Rattle.result.specs.PackedPart.{length_inputs, by_four, by_eight}
use Rattle.result.proofs.outputs.put_inputs.Goals as goal

module _ {b part : List ℕ} (w : ShapedResult b) (is : part ≡ packed_part b) where
  four : exponent b ≡ 2 → bits_of_each 4 part ≡ result_inputs b
  four e = ap (bits_of_each 4) is ∙ by_four w e

  eight : (exponent b ≡ 2 → ⊥) → bits_of_each 8 part ≡ result_inputs b
  eight x = ap (bits_of_each 8) is ∙ by_eight w x

-- there is room for the rows
room : {b u : List ℕ} (w : ShapedResult b) (n : ℕ) → row_count b * positions b ≤ n → u ≡ result_inputs b → length u ≤ n
room w n h e = omega (arith, ap length e, length_inputs w, h)

pub put_unpacked-requires : goal.put_unpacked-requires
put_unpacked-requires c =
    let l = c.args.given.laid in
    room l.shaped (length c.args.inputs.now) c.requires (four l.shaped c.packed_rows.ensures (sym l.m_is ∙ c.if-given-eq2.true))

pub returns-then-given-eq2 : goal.returns-then-given-eq2
returns-then-given-eq2 c =
    let l = c.args.given.laid in
    (put_same c.put_unpacked.ensures.0 (four l.shaped c.packed_rows.ensures (sym l.m_is ∙ c.if-given-eq2.true)), c.put_unpacked.ensures.1)

pub put_unpacked-requires-2 : goal.put_unpacked-requires-2
put_unpacked-requires-2 c =
    let l = c.args.given.laid in
    room l.shaped (length c.args.inputs.now) c.requires (eight l.shaped c.packed_rows-2.ensures (λ q. c.if-given-eq2.false (l.m_is ∙ q)))

pub returns : goal.returns
returns c =
    let l = c.args.given.laid in
    (put_same c.put_unpacked-2.ensures.0 (eight l.shaped c.packed_rows-2.ensures (λ q. c.if-given-eq2.false (l.m_is ∙ q))), c.put_unpacked-2.ensures.1)
