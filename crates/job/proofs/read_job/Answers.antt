-- Refused for its shape or for its fields, or the parts and the fields of a record that passed its tests.
use Rattle.std.proofs.Common.{◌≡◌, sym, ap, ◌∙◌, List, ℕ, length, rules, arith}
use Rattle.spec.specs.Faults.{first}
use Rattle.spec.specs.Record.{shape_faults, field_faults}
use Rattle.spec.specs.Outcome.{Job, refused_job, padded, reading, read_refusal, read_outcome, read_served}
use Rattle.refusals.specs.Number.{number_of, not_zero}
use Rattle.job_fields.specs.Laid.{length_map, length_pairs}
use Rattle.job.specs.Answer.{job_of}
use Rattle.job.specs.Calls.{AcceptedRecord, shape_refused, shape_passed, read_refused, accepted_record, same_reading, read_served_lem}
use Rattle.job.proofs.read_job.Goals as goal

pub returns-in_err-job : goal.returns-in_err-job
returns-in_err-job c =
    let a = c.args in
    let b = a.bytes.now in
    let e = c.in_err-job.field-0.0 in
    let k : ℕ = number_of e in
    let h : job_of c.from_residual.result ≡ refused_job k = search rules in
    ap (λ (j : Job). reading j a.map.now a.soft.now a.pairs.now) h
    ∙ read_refused b a.map.now a.soft.now a.pairs.now k
    (shape_refused b (length a.map.now) (length a.soft.now) (length a.pairs.now) k c.in_err-job.ensures (not_zero e)) (not_zero e)

-- The layout is of the bytes that were given, and their shape is right: the fields decide, and where nothing applies what is lent has room.
module _ {s b : List ℕ} (maps softs pairs : ℕ) (e : s ≡ b) (f : 0 ≡ first (shape_faults b)) where
  by_fields : (k : ℕ) → k ≡ first (field_faults s maps softs pairs) → k ≡ read_refusal s maps softs pairs
  by_fields = shape_passed s maps softs pairs (f ∙ ap (λ (x : List ℕ). first (shape_faults x)) (sym e))

  known : 0 ≡ first (field_faults s maps softs pairs) → AcceptedRecord s maps softs pairs
  known g = accepted_record s maps softs pairs (by_fields 0 g)

pub returns-in_err-check_fields : goal.returns-in_err-check_fields
returns-in_err-check_fields c =
    let a = c.args in
    let s = c.in_ok-job.job.bytes.now in
    let f = c.in_ok-job.ensures in
    let e = c.in_err-check_fields.field-0.0 in
    let k : ℕ = number_of e in
    let h : job_of c.from_residual-in_err-check_fields.result ≡ refused_job k = search rules in
    let n = by_fields (length a.map.now) (length a.soft.now) (length a.pairs.now) f.0 f.1 k c.in_err-check_fields.ensures in
    ap (λ (j : Job). reading j a.map.now a.soft.now a.pairs.now) h
    ∙ read_refused s a.map.now a.soft.now a.pairs.now k n (not_zero e)
    ∙ ap (λ (x : List ℕ). read_outcome x a.map.now a.soft.now a.pairs.now) f.0

pub write_part-requires : goal.write_part-requires
write_part-requires c =
    let a = c.args in
    let f = c.in_ok-job.ensures in
    let w = known (length a.map.now) (length a.soft.now) (length a.pairs.now) f.0 f.1 c.in_ok-check_fields.ensures in
    omega (arith, ap length c.map.ensures, length_map w.shaped, w.map_room)

pub write_part-requires-2 : goal.write_part-requires-2
write_part-requires-2 c =
    let a = c.args in
    let f = c.in_ok-job.ensures in
    let w = known (length a.map.now) (length a.soft.now) (length a.pairs.now) f.0 f.1 c.in_ok-check_fields.ensures in
    omega (arith, ap length c.pairs.ensures, length_pairs w.shaped, w.pair_room)

pub write_soft-requires : goal.write_soft-requires
write_soft-requires c =
    let a = c.args in
    let f = c.in_ok-job.ensures in
    let w = known (length a.map.now) (length a.soft.now) (length a.pairs.now) f.0 f.1 c.in_ok-check_fields.ensures in
    (w.soft_room, w.range)

pub returns : goal.returns
unfolding read_served
returns c =
    let a = c.args in
    let f = c.in_ok-job.ensures in
    let s = c.in_ok-job.job.bytes.now in
    let passed = by_fields (length a.map.now) (length a.soft.now) (length a.pairs.now) f.0 f.1 0 c.in_ok-check_fields.ensures in
    same_reading c.fields_of.ensures (c.write_part.ensures ∙ ap (padded 0 (length a.map.now)) c.map.ensures) c.write_soft.ensures
    (c.write_part-2.ensures ∙ ap (padded 0 (length a.pairs.now)) c.pairs.ensures)
    ∙ read_served_lem s a.map.now a.soft.now a.pairs.now passed
    ∙ ap (λ (x : List ℕ). read_outcome x a.map.now a.soft.now a.pairs.now) f.0
