-- Refused, or the record of fields that passed their tests, and 0 behind it.
use Rattle.std.proofs.Common.{◌≡◌, ap, ap₂, ◌∙◌, List, ℕ, ◌<◌, ◌≤◌, length, rules, arith}
use Rattle.spec.specs.Outcome.{Length, long, refused_length, writing}
use Rattle.spec.specs.JobWriter.{Fields, fields_of, written_record, write_served}
use Rattle.slices.specs.Fill.{filled_front}
use Rattle.place.specs.Put.{whole}
use Rattle.refusals.specs.Number.{number_of, not_zero}
use Rattle.record_writer.specs.Answer.{length_of}
use Rattle.code.specs.Codes.{code_of}
use Rattle.laws.specs.WriteCall.{given_none, given_refused, room_refused, write_accepted, write_refused, write_served_lem}
use Rattle.job_writer.proofs.write_job.Goals as goal

pub returns-in_err-check_block : goal.returns-in_err-check_block
returns-in_err-check_block c =
    let a = c.args in
    let out = a.out.now in
    let f : Fields = fields_of (code_of a.code) a.l a.p a.frame a.soft.now in
    let e = c.in_err-check_block.field-0.0 in
    let k : ℕ = number_of e in
    let h : length_of c.from_residual.result ≡ refused_length k = search rules in
    ap (λ (x : Length). writing x out) h
    ∙ write_refused f out k (given_refused f (length out) k (c.in_err-check_block.ensures a.code.arikan) (not_zero e)) (not_zero e)

pub record_length-k-requires : goal.record_length-k-requires
record_length-k-requires c = λ x.
    let a = c.args in
    (given_none (fields_of (record (code_of a.code) { arikan = x }) a.l a.p a.frame a.soft.now) (c.in_ok-check_block.ensures x)).accepts

pub returns-then-out-k : goal.returns-then-out-k
returns-then-out-k c =
    let a = c.args in
    let out = a.out.now in
    let f : Fields = fields_of (code_of a.code) a.l a.p a.frame a.soft.now in
    let passed = c.in_ok-check_block.ensures a.code.arikan in
    let measured = c.record_length-k.ensures.0 a.code.arikan a.soft.now (given_none f passed).values in
    let short : length out < length (written_record f) = omega (arith, measured, c.if-out-k.true) in
    write_refused f out 10 (room_refused f (length out) passed short) (λ q. omega arith)

pub write_record-requires : goal.write_record-requires
write_record-requires c =
    let a = c.args in
    let f : Fields = fields_of (code_of a.code) a.l a.p a.frame a.soft.now in
    let w = given_none f (c.in_ok-check_block.ensures a.code.arikan) in
    (w, omega (arith, c.record_length-k.ensures.0 a.code.arikan a.soft.now w.values, c.if-out-k.false))

pub returns : goal.returns
unfolding write_served
returns c =
    let a = c.args in
    let out = a.out.now in
    let f : Fields = fields_of (code_of a.code) a.l a.p a.frame a.soft.now in
    let w = given_none f (c.in_ok-check_block.ensures a.code.arikan) in
    let n = c.record_length-k.ensures.0 a.code.arikan a.soft.now w.values in
    let fits : length (written_record f) ≤ length out = omega (arith, n, c.if-out-k.false) in
    let begun = whole c.write_record.ensures (omega (arith, c.write_record.ensures.place, fits)) in
    let bytes = c.fill_from.ensures ∙ filled_front 0 (written_record f) out _ c.record_length-k.result begun.bytes n fits in
    ap₂ (λ (i : ℕ) (o : List ℕ). writing (long i) o) n bytes ∙ write_served_lem f out (write_accepted f (length out) w fits)
