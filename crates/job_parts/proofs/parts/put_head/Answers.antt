-- Byte 0, m, and the fields that stand.
use Rattle.std.proofs.Common.{◌≡◌, ap, ◌∙◌, [], ◌∷◌, ℕ, ◌%◌, arith}
use Rattle.place.specs.Put.{then, put_same}
use Rattle.job_parts.proofs.parts.put_head.Goals as goal

pub returns : goal.returns
returns c =
    let small : c.args.m % 256 ≡ c.args.m = omega (arith, c.requires.0) in
    let e = ap (λ (x : ℕ). x ∷ []) (c.low_byte.ensures ∙ small) in
    then c.put_byte-a.ensures.0 (then (put_same c.put_byte-b.ensures.0 e) c.put.ensures.0)
