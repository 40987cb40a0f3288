-- The lengths of its parts.
use Rattle.std.proofs.Common.{◌≡◌, ap, ◌∙◌, true, ℕ, ◌+◌, ◌*◌, ◌^◌, arith}
use Rattle.spec.specs.Code as definitions
use Rattle.spec.specs.RecordOf.{field_bit}
use Rattle.spec.specs.JobWriter.{fields_of, unless}
use Rattle.laws.specs.WrittenForm.{written_length, bounded}
use Rattle.job_writer.proofs.whole.record_length.Goals as goal

pub size-n-requires : goal.size-n-requires
size-n-requires c = (bounded (c.requires true)).exponent

pub overflow_add-result-4 : goal.overflow_add-result-4
overflow_add-result-4 c = let b = bounded (c.requires true) in omega (arith, b.map, b.pairs)

pub overflow_add-result-5 : goal.overflow_add-result-5
overflow_add-result-5 c = let b = bounded (c.requires true) in omega (arith, b.map, b.pairs)

pub returns : goal.returns
returns c =
    let a = c.args in
    let b = bounded (c.requires true) in
    -- the fields that may be left out, over the size that was computed
    let options : c.bits.result ≡ field_bit (unless 4 a.l) + 2 * field_bit (unless (2 ^ a.code.m) a.p) + 4 * field_bit (unless 0 a.frame)
    = c.bits.ensures.0 ∙ ap (λ (n : ℕ). field_bit (unless 4 a.l) + 2 * field_bit (unless n a.p) + 4 * field_bit (unless 0 a.frame)) c.size-n.ensures.0 in (
      λ arikan soft n.
          omega (
            arith,
            options,
            c.pair_bit-q.ensures.0,
            n,
            c.size-n.ensures.0,
            written_length (fields_of (definitions.code a.code.m arikan a.code.map.now a.code.pairs.now) a.l a.p a.frame soft),
          ),
      omega (arith, b.map, b.pairs),
    )
