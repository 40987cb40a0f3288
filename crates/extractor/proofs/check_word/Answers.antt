-- The two parts of the table, one after the other.
use Rattle.std.proofs.Common.{◌≡◌, refl, ap, ◌∙◌, rules, ℕ, ◌^◌}
use Rattle.spec.specs.Faults.{first}
use Rattle.spec.specs.Refusals.{code_faults}
use Rattle.refusals.specs.Number.{number_of, refused, not_zero}
use Rattle.laws.specs.FirstFault.{first_before, first_after}
use Rattle.laws.specs.Accepted.{accepted, code_numbers}
use Rattle.code.specs.Codes.{code_of}
use Rattle.code.specs.Given.{bit_faults}
use Rattle.extractor.proofs.check_word.Goals as goal

pub returns-in_err-check : goal.returns-in_err-check
returns-in_err-check c =
    let s = c.args.code in
    let e = c.in_err-check.field-0.0 in
    let h : refused c.from_residual.result ≡ number_of e = search rules in
    h ∙ first_before (code_faults (code_of s)) (bit_faults (2 ^ s.m) c.args.word.now) (number_of e) (c.in_err-check.ensures s.arikan) (not_zero e)

pub size-requires : goal.size-requires
size-requires c = (accepted (code_of c.args.code) (c.in_ok-check.ensures c.args.code.arikan)).high

pub returns : goal.returns
returns c =
    let s = c.args.code in
    first_after (code_faults (code_of s)) (bit_faults (2 ^ s.m) c.args.word.now) 0 (c.in_ok-check.ensures s.arikan)
    (code_numbers (code_of s)) refl _ (c.check_bits.ensures ∙ ap (λ (k : ℕ). first (bit_faults k c.args.word.now)) c.size.ensures.0)
