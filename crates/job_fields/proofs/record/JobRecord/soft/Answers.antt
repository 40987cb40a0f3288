use Rattle.std.proofs.Common.{◌≡◌, sym, ap, ◌∙◌, ℕ, ◌+◌, ◌*◌, get_or, pos, arith}
use Rattle.std.proofs.lemmas.Int.{ints, to_z-of_z}
use Rattle.spec.specs.Record.{two_at, signed16, positions, soft_at, record_soft}
use Rattle.job_fields.specs.SoftAt.{soft_at_lem}
use Rattle.job_fields.proofs.record.JobRecord.soft.Goals as goal

pub returns : goal.returns
returns c =
    let r = c.args.self in
    let s = r.bytes.now in
    let e : c.soft_value.result ≡ get_or (record_soft s) c.args.i (pos 0)
    = c.soft_value.ensures
    ∙ ap (λ (at : ℕ). signed16 (two_at s (at + 2 * c.args.i))) r.laid.soft_begins
    ∙ sym (soft_at_lem s (soft_at s) (positions s) c.args.i c.requires) in
    search (arith, ints, to_z-of_z, e)
