-- The two fields one behind the other.
use Rattle.std.proofs.Common.{◌≡◌, ap₂, ◌++◌, ℕ, rules}
use Rattle.spec.specs.RecordOf.{field_bytes, thirty_two_bits}
use Rattle.spec.specs.JobWriter.{unless}
use Rattle.spec.specs.ResultRecord.{first_score}
use Rattle.spec.specs.ResultWriter.{frame_field}
use Rattle.place.specs.Put.{then, put_same}
use Rattle.result_writer.specs.Given.{given_of}
use Rattle.result_writer.proofs.block.BlockResult.put_fields.Goals as goal

pub returns : goal.returns
returns c =
    let r = given_of c.args.self in
    let one : c.thirty_two_bits-first.result ≡ thirty_two_bits (first_score r.scores) = search rules in
    let two : c.thirty_two_bits-top.result ≡ thirty_two_bits r.ceiling = search rules in
    put_same (then c.put_unless-next.ensures.0 c.put_unless.ensures.0)
    (ap₂ (λ (i j : ℕ). field_bytes 4 (frame_field r) ++ field_bytes 4 (unless i j)) one two)
