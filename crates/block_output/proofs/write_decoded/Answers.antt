use Rattle.std.proofs.Common.{ap, ◌∙◌, ℕ, ◌≤◌, arith}
use Rattle.spec.specs.Outcome.{lent, Decoding, decoding}
use Rattle.code.specs.Codes.{code_of}
use Rattle.decoder.specs.Answers.{answer_of}
use Rattle.place.specs.Put.{begins_same}
use Rattle.block_output.specs.Block.{rows_answered, answer_text, four_fit, answer_text_lem, answer_rows}
use Rattle.block_output.proofs.write_decoded.Goals as goal

pub write_answer-requires : goal.write_answer-requires
write_answer-requires c =
    let z = c.decode-answer.new in
    let o : Decoding = decoding (answer_of c.decode-answer.result) (lent z.numbers z.bytes z.inputs z.words z.scores) in
    let few : rows_answered o.answer ≤ 4
    = omega (arith, answer_rows (code_of c.args.code) c.args.l c.args.p c.args.frame c.args.soft.now o c.decode-answer.ensures, c.requires.2) in
    let fit = four_fit (rows_answered o.answer) c.args.n few c.requires.1 in
    let k = c.decode-answer.auto in
    (omega (arith, k.inputs, fit.0), omega (arith, k.words, fit.0), omega (arith, k.scores, few), omega (arith, c.requires.3, fit.1))

pub returns : goal.returns
returns c =
    let z = c.decode-answer.new in
    let o : Decoding = decoding (answer_of c.decode-answer.result) (lent z.numbers z.bytes z.inputs z.words z.scores) in
    begins_same
    (ap (λ (n : ℕ). answer_text c.args.frame n o.answer z.inputs z.words z.scores) c.requires.0
    ∙ answer_text_lem (code_of c.args.code) c.args.l c.args.p c.args.frame c.args.soft.now o c.decode-answer.ensures)
    c.write_answer.ensures
