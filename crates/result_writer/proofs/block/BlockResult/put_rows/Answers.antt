-- Rows of four positions, or of whole bytes.
use Rattle.std.proofs.Common.{◌≡◌, sym, ap, ◌∙◌, ℕ, ◌*◌, ◌^◌, mul_assoc, mul_comm, arith}
use Rattle.spec.specs.Code.{map_bytes}
use Rattle.spec.specs.ResultWriter.{Result, packed_rows, size}
use Rattle.place.specs.Put.{put_same}
use Rattle.laws.specs.PackedRows.{packed_each, packed_fours, in_bytes, packed_bytes_lem}
use Rattle.laws.specs.ResultWriting.{WritableResult, length_packed_rows}
use Rattle.result_writer.specs.Given.{given_of}
use Rattle.result_writer.proofs.block.BlockResult.put_rows.Goals as goal

by_eights : (k b : ℕ) → k * (8 * b) ≡ k * b * 8
by_eights k b = ap (λ (x : ℕ). k * x) (mul_comm 8 b) ∙ sym (mul_assoc k b 8)

-- four positions
four : (r : Result) → r.m ≡ 2 → size r ≡ 4
four r e = ap (λ (m : ℕ). 2 ^ m) e

-- or whole bytes
bytes : (r : Result) → WritableResult r → (r.m ≡ 2 → ⊥) → size r ≡ 8 * map_bytes (size r)
bytes r w x = in_bytes r.m (omega (arith, w.low, x))

pub put_packed-requires : goal.put_packed-requires
put_packed-requires c =
    let r = given_of c.args.self in
    let n = four r c.if-self-eq2.true in (
      c.requires.0.bits,
      omega arith,
      c.requires.0.inputs_long ∙ ap (λ (k : ℕ). r.rows * k) n,
      omega (arith, length_packed_rows (size r) r.rows r.inputs, ap (λ (k : ℕ). r.rows * map_bytes k) n, c.requires.1),
    )

pub returns-then-self-eq2 : goal.returns-then-self-eq2
returns-then-self-eq2 c =
    let r = given_of c.args.self in
    put_same c.put_packed.ensures.0 (sym (ap (λ (n : ℕ). packed_rows n r.rows r.inputs) (four r c.if-self-eq2.true) ∙ packed_fours r.rows r.inputs))

pub put_packed-requires-2 : goal.put_packed-requires-2
put_packed-requires-2 c =
    let r = given_of c.args.self in
    let counted : c.times-count.result ≡ r.rows * map_bytes (size r) = c.times-count.ensures.0 ∙ ap (λ (n : ℕ). r.rows * map_bytes n) c.size.ensures.0 in (
      c.requires.0.bits,
      omega arith,
      c.requires.0.inputs_long ∙ ap (λ (n : ℕ). r.rows * n) (bytes r c.requires.0 c.if-self-eq2.false) ∙ by_eights r.rows (map_bytes (size r))
          ∙ ap (λ (n : ℕ). n * 8) (sym counted),
      omega (arith, length_packed_rows (size r) r.rows r.inputs, counted, c.requires.1),
    )

pub returns : goal.returns
returns c =
    let r = given_of c.args.self in
    let counted : c.times-count.result ≡ r.rows * map_bytes (size r) = c.times-count.ensures.0 ∙ ap (λ (n : ℕ). r.rows * map_bytes n) c.size.ensures.0 in
    put_same c.put_packed-2.ensures.0
    (ap (λ (n : ℕ). packed_each 8 n r.inputs) counted ∙ sym (packed_bytes_lem (size r) r.rows r.inputs (bytes r c.requires.0 c.if-self-eq2.false)))
