-- Byte 0, m, the row count, and the fields that stand.
use Rattle.std.proofs.Common.{◌≡◌, ap, ◌∙◌, [], ◌∷◌, ℕ, ◌%◌, arith}
use Rattle.place.specs.Put.{then, put_same}
use Rattle.result_writer.proofs.block.BlockResult.put_head.Goals as goal

pub returns : goal.returns
returns c =
    let r = c.args.self in
    let small : r.m % 256 ≡ r.m = omega (arith, c.requires.0.high) in
    let few : r.rows % 256 ≡ r.rows = omega (arith, c.requires.0.few_rows) in
    then (put_same c.put_byte-a.ensures.0 (ap (λ (x : ℕ). x ∷ []) c.fields_byte.ensures.0))
    (then (put_same c.put_byte-b.ensures.0 (ap (λ (x : ℕ). x ∷ []) (c.low_byte.ensures ∙ small)))
    (then (put_same c.put_byte-c.ensures.0 (ap (λ (x : ℕ). x ∷ []) (c.low_byte-2.ensures ∙ few))) c.put_fields.ensures))
