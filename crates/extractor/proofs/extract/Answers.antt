-- The tests of the code and the word, then what is left on the input.
use Rattle.std.proofs.Common.{◌≡◌, sym, ap, ◌∙◌, rules, List, ℕ, length}
use Rattle.spec.specs.Code.{Code, size, input_of}
use Rattle.spec.specs.Faults.{first}
use Rattle.spec.specs.Outcome.{written, extract_refusal}
use Rattle.refusals.specs.Number.{number_of, refused, not_zero}
use Rattle.laws.specs.FirstFault.{of_first, first_before}
use Rattle.slices.specs.LocalPart.{lent_long, part_is, part_long}
use Rattle.code.specs.Codes.{code_of}
use Rattle.code.specs.Given.{given_faults, given_of}
use Rattle.extractor.specs.ExtractCall.{input_faults, payload_outcome, extract_refused, extract_input}
use Rattle.extractor.proofs.extract.Goals as goal

found : (c : Code) (word : List ℕ) (room k : ℕ) → k ≡ first (given_faults c (size c) word) → (k ≡ 0 → ⊥) → k ≡ extract_refusal c word room
unfolding extract_refusal
found c word room k e n = first_before (given_faults c (size c) word) (input_faults c (input_of c word) room) k e n

pub returns-in_err-check_word : goal.returns-in_err-check_word
returns-in_err-check_word c =
    let s = code_of c.args.code in
    let out = c.args.payload.now in
    let e = c.in_err-check_word.field-0.0 in
    let h : refused c.from_residual.result ≡ number_of e = search rules in
    ap (λ (k : ℕ). written k out) h
    ∙ extract_refused s c.args.word.now out (number_of e)
    (found s c.args.word.now (length out) (number_of e) c.in_err-check_word.ensures (not_zero e)) (not_zero e)

pub size-n-requires : goal.size-n-requires
size-n-requires c =
    let s = code_of c.args.code in
    (given_of (of_first (given_faults s (size s) c.args.word.now) 0 c.in_ok-check_word.ensures)).accepts.high

pub write_input-requires : goal.write_input-requires
write_input-requires c =
    let s = code_of c.args.code in
    let g = given_of (of_first (given_faults s (size s) c.args.word.now) 0 c.in_ok-check_word.ensures) in (
      lent_long 0 c.size-n.result c.size-n.ensures.1 ∙ c.size-n.ensures.0 ∙ sym g.long,
      record {
        least = g.accepts.low;
        most = g.accepts.high;
        long = g.long;
        bits = g.bits;
      },
    )

pub write_payload-requires : goal.write_payload-requires
write_payload-requires c =
    let s = code_of c.args.code in
    let n = c.size-n.result in
    let g = given_of (of_first (given_faults s (size s) c.args.word.now) 0 c.in_ok-check_word.ensures) in
    (g.accepts, part_long 0 n c.size-n.ensures.1 c.write_input.new.input c.write_input.auto.input ∙ c.size-n.ensures.0)

pub returns : goal.returns
unfolding input_of
returns c =
    let s = code_of c.args.code in
    let out = c.args.payload.now in
    let n = c.size-n.result in
    c.write_payload.ensures
    ∙ ap (λ (u : List ℕ). payload_outcome s u out)
    (part_is 0 n c.size-n.ensures.1 c.write_input.new.input c.write_input.auto.input ∙ c.write_input.ensures)
    ∙ extract_input s c.args.word.now out c.in_ok-check_word.ensures
