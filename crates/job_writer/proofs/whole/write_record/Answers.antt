-- Byte 0 and the head, and the rest behind it.
use Rattle.std.proofs.Common.{◌≡◌, ap, ap₂, ◌∙◌, List, ◌++◌, ℕ, ◌+◌, ◌*◌, ◌^◌, length, length-append, arith}
use Rattle.spec.specs.Score.{taken}
use Rattle.spec.specs.RecordOf.{field_bit, pair_bit, flag_bit, fields_byte, pair_bytes, soft_bytes, head_of, record_of}
use Rattle.spec.specs.JobWriter.{Fields, fields_of, unless, unless_none, leanest, written_record}
use Rattle.place.specs.Put.{then, put_same}
use Rattle.code.specs.Codes.{code_of}
use Rattle.laws.specs.WrittenForm.{written_length, bounded}
use Rattle.job_writer.proofs.whole.write_record.Goals as goal

-- the record in two parts
abbrev ahead : Fields → List ℕ
ahead f = head_of (fields_byte (leanest f)) f.code.m (unless 4 f.list_size) (unless (2 ^ f.code.m) f.stop) (unless 0 f.frame)

abbrev behind : Fields → List ℕ
behind f = f.code.map ++ (pair_bytes (unless_none f.code.pairs) ++ soft_bytes (taken f.soft))

parts : (f : Fields) → length (written_record f) ≡ length (ahead f) + length (behind f)
unfolding written_record record_of
parts f = length-append (ahead f) (behind f)

-- the head with byte 0, over the size n that was computed
abbrev byte_0 : Fields → ℕ → ℕ
byte_0 f n =
    field_bit (unless 4 f.list_size) + 2 * field_bit (unless n f.stop) + 4 * field_bit (unless 0 f.frame)
    + 8 * pair_bit (unless_none f.code.pairs) + 16 * flag_bit f.code.arikan

head_is : (f : Fields) (b n : ℕ) → b ≡ byte_0 f n → n ≡ 2 ^ f.code.m
    → head_of b f.code.m (unless 4 f.list_size) (unless n f.stop) (unless 0 f.frame) ≡ ahead f
head_is f b n e h =
    ap₂ (λ (b n : ℕ). head_of b f.code.m (unless 4 f.list_size) (unless n f.stop) (unless 0 f.frame)) (e ∙ ap (byte_0 f) h) h

pub put_head-at-requires : goal.put_head-at-requires
put_head-at-requires c =
    let a = c.args in
    let f : Fields = fields_of (code_of a.code) a.l a.p a.frame a.soft.now in
    let b = bounded c.requires.0.accepts in
    (omega (arith, b.exponent), omega (arith, b.some, c.requires.0.values, c.requires.1, written_length f))

pub put_rest-requires : goal.put_rest-requires
put_rest-requires c =
    let a = c.args in
    let f : Fields = fields_of (code_of a.code) a.l a.p a.frame a.soft.now in
    let b = bounded c.requires.0.accepts in
    let at = (put_same c.put_head-at.ensures (head_is f _ _ c.fields_byte-fields.ensures c.size.ensures.0)).place in
    (b.whole, b.pairs, omega (arith, b.some, c.requires.0.values), c.requires.0.in_range, omega (arith, at, parts f, c.requires.1))

pub returns : goal.returns
unfolding written_record record_of
returns c =
    let a = c.args in
    let f : Fields = fields_of (code_of a.code) a.l a.p a.frame a.soft.now in
    then (put_same c.put_head-at.ensures (head_is f _ _ c.fields_byte-fields.ensures c.size.ensures.0)) c.put_rest.ensures
