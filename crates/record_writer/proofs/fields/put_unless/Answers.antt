-- Nothing, or the bytes of the field.
use Rattle.std.proofs.Common.{sym, ap, arith}
use Rattle.spec.specs.RecordOf.{field_bytes}
use Rattle.place.specs.Put.{put_none, put_same}
use Rattle.laws.specs.WrittenForm.{left_out, stands}
use Rattle.record_writer.proofs.fields.put_unless.Goals as goal

pub returns-then-x-absence : goal.returns-then-x-absence
returns-then-x-absence c =
    let a = c.args in
    (put_same (put_none a.at a.out.now) (sym (ap (field_bytes a.count) (left_out a.absence a.x c.if-x-absence.true))), omega arith)

pub returns : goal.returns
returns c =
    let a = c.args in
    (put_same c.put_low.ensures.0 (sym (ap (field_bytes a.count) (stands a.absence a.x c.if-x-absence.false))), c.put_low.ensures.1)
