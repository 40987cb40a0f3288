-- Refused, or the record of a result that passed its tests, and 0 behind it.
use Rattle.std.proofs.Common.{ap₂, ◌∙◌, List, ℕ, ◌≤◌, ◌<◌, length, arith}
use Rattle.std.proofs.lemmas.Result.{err_from_is_err_and}
use Rattle.spec.specs.Outcome.{long, writing}
use Rattle.spec.specs.ResultWriter.{written_result, write_result_served}
use Rattle.slices.specs.Fill.{filled_front}
use Rattle.place.specs.Put.{whole}
use Rattle.laws.specs.ResultWriting.{result_none, result_refused, room_refused, result_accepted, write_result_refused, write_result_served_lem}
use Rattle.refusals.specs.Number.{number_of, not_zero}
use Rattle.result_writer.specs.Given.{given_of}
use Rattle.result_writer.proofs.block.BlockResult.write.Goals as goal

pub returns-in_err-check : goal.returns-in_err-check
returns-in_err-check c =
    let r = given_of c.args.self in
    let e = c.in_err-check.field-0.0 in
    let k = number_of e in
    let p = err_from_is_err_and c.from_residual.result c.from_residual.ensures.1 in
    rw (p.1, p.2) (write_result_refused r c.args.out.now k (result_refused r (length c.args.out.now) k c.in_err-check.ensures (not_zero e)) (not_zero e))

pub length-k-requires : goal.length-k-requires
length-k-requires c = result_none (given_of c.args.self) c.in_ok-check.ensures

pub returns-then-out-k : goal.returns-then-out-k
returns-then-out-k c =
    let r = given_of c.args.self in
    let short : length c.args.out.now < length (written_result r) = omega (arith, c.length-k.ensures.0, c.if-out-k.true) in
    write_result_refused r c.args.out.now 10 (room_refused r (length c.args.out.now) c.in_ok-check.ensures short) (λ q. omega (arith, q))

pub put-requires : goal.put-requires
put-requires c =
    let r = given_of c.args.self in
    (result_none r c.in_ok-check.ensures, omega (arith, c.length-k.ensures.0, c.if-out-k.false))

pub returns : goal.returns
unfolding write_result_served
returns c =
    let r = given_of c.args.self in
    let out : List ℕ = c.args.out.now in
    let n = c.length-k.ensures.0 in
    let fits : length (written_result r) ≤ length out = omega (arith, n, c.if-out-k.false) in
    let begun = whole c.put.ensures (omega (arith, c.put.ensures.place, fits)) in
    let bytes = c.fill_from.ensures ∙ filled_front 0 (written_result r) out _ c.length-k.result begun.bytes n fits in
    ap₂ (λ (i : ℕ) (o : List ℕ). writing (long i) o) n bytes
    ∙ write_result_served_lem r out (result_accepted r (length out) c.in_ok-check.ensures fits)
