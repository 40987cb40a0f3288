use Rattle.std.proofs.Common.{◌≡◌, ℕ, ◌+◌, ◌-◌, ◌*◌, ◌<◌, List, get_or, drop, sym, ap, ◌∙◌, arith}
use Rattle.std.proofs.lemmas.List.{length-drop}
use Rattle.spec.specs.Bits.{packed}
use Rattle.laws.specs.BitLaws.{bits_drop}
use Rattle.laws.specs.PackedRows.{packed_small}
use Rattle.packed_rows.specs.Turns.{packed_none, packed_more}
use Rattle.packed_rows.proofs.packing.packed_bits.Goals as goal
use Rattle.packed_rows.proofs.packing.packed_bits.Goals.{In-loop-i}

-- the bits from i on, with one more before them
more : (c : In-loop-i) → let bits : List ℕ = c.args.bits.now in let i : ℕ = c.loop-i.i - 1 in
    (packed (drop i bits) ≡ 2 * c.loop-i.x + get_or bits i 0) × (packed (drop i bits) < 256)
more c =
    let bits = c.args.bits.now in
    let i : ℕ = c.loop-i.i - 1 in
    let e : i + 1 ≡ c.loop-i.i = omega arith in (
      packed_more bits i (omega arith) ∙ ap (λ (k : ℕ). 2 * packed (drop k bits) + get_or bits i 0) e ∙ ap (λ (y : ℕ). 2 * y + get_or bits i 0) (sym c.loop-i.invariant),
      packed_small (bits_drop c.requires.0 i) (omega (arith, length-drop i bits, c.requires.1)),
    )

pub loop-i-init : goal.loop-i-init
loop-i-init c = packed_none c.args.bits.now

pub overflow_mul-x : goal.overflow_mul-x
overflow_mul-x c = omega (arith, (more (goal.at.overflow_mul-x c).In-loop-i).0, (more (goal.at.overflow_mul-x c).In-loop-i).1)

pub overflow_add-x : goal.overflow_add-x
overflow_add-x c = omega (arith, (more (goal.at.overflow_add-x c).In-loop-i).0, (more (goal.at.overflow_add-x c).In-loop-i).1)

pub loop-i-preserved : goal.loop-i-preserved
loop-i-preserved c = sym (more (goal.at.loop-i-preserved c).In-loop-i).0
