-- The two parts of the table, one after the other.
use Rattle.std.proofs.Common.{◌≡◌, refl, ap, ◌∙◌, rules, ℕ}
use Rattle.spec.specs.Code.{payload_size}
use Rattle.spec.specs.Faults.{first}
use Rattle.spec.specs.Refusals.{code_faults}
use Rattle.refusals.specs.Number.{number_of, refused, not_zero}
use Rattle.laws.specs.FirstFault.{first_before, first_after}
use Rattle.laws.specs.Accepted.{accepted, code_numbers}
use Rattle.code.specs.Codes.{code_of}
use Rattle.code.specs.Given.{bit_faults}
use Rattle.encoder.proofs.check_payload.Goals as goal

pub returns-in_err-check : goal.returns-in_err-check
returns-in_err-check c =
    let s = c.args.code in
    let e = c.in_err-check.field-0.0 in
    let h : refused c.from_residual.result ≡ number_of e = search rules in
    h ∙ first_before (code_faults (code_of s)) (bit_faults (payload_size (code_of s)) c.args.payload.now) (number_of e) (c.in_err-check.ensures s.arikan) (not_zero e)

pub payload_size-requires : goal.payload_size-requires
payload_size-requires c = let a = accepted (code_of c.args.code) (c.in_ok-check.ensures c.args.code.arikan) in (a.high, a.bytes, a.ends)

pub returns : goal.returns
returns c =
    let s = c.args.code in
    first_after (code_faults (code_of s)) (bit_faults (payload_size (code_of s)) c.args.payload.now) 0 (c.in_ok-check.ensures s.arikan)
    (code_numbers (code_of s)) refl _ (c.check_bits.ensures ∙ ap (λ (k : ℕ). first (bit_faults k c.args.payload.now)) (c.payload_size.ensures s.arikan s.pairs.now))
