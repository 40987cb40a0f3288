use Rattle.std.proofs.Common.{◌≡◌, ap, List, ◌++◌, ℕ, ◌+◌, ◌<◌, ◌≤◌, ℤ, pos, length, drop, get_or, drop_of_length-le, arith}
use Rattle.spec.specs.RecordOf.{low_first, sixteen_bits, soft_bytes}
use Rattle.spec.specs.Score.{taken}
use Rattle.laws.specs.Taken.{length_taken}
use Rattle.place.specs.Put.{less_left, none_left, put_same}
use Rattle.place.specs.Turns.{rest}
use Rattle.job_parts.proofs.soft.put_soft.Goals as goal

-- one value, and those behind it
turn : (y : List ℤ) (i : ℕ) → i < length y
    → soft_bytes (drop i (taken y)) ≡ low_first 2 (sixteen_bits (get_or (taken y) i (pos 0))) ++ soft_bytes (drop (i + 1) (taken y))
turn y i h = ap soft_bytes (rest (taken y) i (pos 0) (omega (arith, length_taken y)))

pub loop-i-preserved : goal.loop-i-preserved
loop-i-preserved c =
    let p = put_same c.put_low-next.ensures.0 (ap (low_first 2) c.taken_bits.ensures) in
    (omega (arith, p.place), less_left c.loop-i.invariant.1 (turn c.args.soft.now c.loop-i.i c.loop-i-test.true) p)

pub returns : goal.returns
returns c =
    let soft = c.args.soft.now in
    let past : length (taken soft) ≤ c.loop-i.i = omega (arith, length_taken soft, c.loop-i-test.false) in
    (none_left c.loop-i.invariant.1 (ap soft_bytes (drop_of_length-le (taken soft) past)), omega arith)
