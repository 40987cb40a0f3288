-- By what the reader answers.
use Rattle.std.proofs.Common.{ap, ◌∙◌, ℕ, replicate}
use Rattle.std.proofs.lemmas.List.{length-replicate}
use Rattle.std.specs.Prelude.{pos}
use Rattle.job.specs.Calls.{read_limits}
use Rattle.place.specs.Put.{begins_same}
use Rattle.row_text.specs.Output.{refused_text}
use Rattle.decode_job.specs.Records.{refused_record, read_record}
use Rattle.decode_job.proofs.output.write_record.Goals as goal

pub write_block-requires : goal.write_block-requires
write_block-requires c =
    let m = read_limits c.args.input.now (replicate 128 0) (replicate 1024 (pos 0)) (replicate 1024 0) c.in-Ok.ensures in
    let k = c.read_job.auto in
    (m.1, m.2, k.map, k.pairs, k.soft, c.requires)

pub returns-in-Err : goal.returns-in-Err
returns-in-Err c =
    begins_same
    (ap refused_text c.number.ensures.0
    ∙ refused_record c.args.input.now (replicate 128 0) _ (replicate 1024 (pos 0)) _ (replicate 1024 0) _
    (length-replicate {A = ℕ} 128 0) (length-replicate 1024 (pos 0)) (length-replicate {A = ℕ} 1024 0) _ c.in-Err.ensures)
    c.write_refused.ensures

pub returns-in-Ok : goal.returns-in-Ok
returns-in-Ok c =
    begins_same
    (read_record c.args.input.now (replicate 128 0) _ (replicate 1024 (pos 0)) _ (replicate 1024 0) _
    (length-replicate {A = ℕ} 128 0) (length-replicate 1024 (pos 0)) (length-replicate {A = ℕ} 1024 0) c.in-Ok.ensures)
    c.write_block.ensures
