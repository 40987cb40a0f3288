-- At each return the tests that were passed and the one that was not, and at the last the word with 0 behind it.
use Rattle.std.proofs.Common.{◌≡◌, refl, ap, ◌∙◌, rules, List, [], ◌∷◌, ℕ, ◌^◌, length, arith, lt-ltb, le-ltb, length-take-le}
use Rattle.spec.specs.Code.{Code, size, payload_size}
use Rattle.spec.specs.Faults.{first}
use Rattle.spec.specs.Refusals.{room_fault}
use Rattle.spec.specs.Outcome.{padded, written, encode_refusal}
use Rattle.refusals.specs.Number.{number_of, refused, not_zero}
use Rattle.laws.specs.FirstFault.{none, here, later, is_first, of_first, first_before, first_after}
use Rattle.code.specs.Codes.{code_of}
use Rattle.code.specs.Given.{given_faults, given_numbers, given_of}
use Rattle.encoder.specs.EncodeCall.{encode_refused, encode_served}
use Rattle.slices.specs.Fill.{filled_behind}
use Rattle.encoder.proofs.encode.Goals as goal

module _ (c : Code) (payload : List ℕ) (room : ℕ) where
  found : (k : ℕ) → k ≡ first (given_faults c (payload_size c) payload) → (k ≡ 0 → ⊥) → k ≡ encode_refusal c payload room
  unfolding encode_refusal
  found k e n = first_before (given_faults c (payload_size c) payload) (room_fault (size c) room ∷ []) k e n

  -- past the tests of the code and the payload the number is that of the test of the room
  passed : 0 ≡ first (given_faults c (payload_size c) payload) → (k : ℕ) → k ≡ first (room_fault (size c) room ∷ []) → k ≡ encode_refusal c payload room
  unfolding encode_refusal
  passed e k q = first_after (given_faults c (payload_size c) payload) (room_fault (size c) room ∷ []) 0 e (given_numbers c (payload_size c) payload) refl k q

pub returns-in_err-check_payload : goal.returns-in_err-check_payload
returns-in_err-check_payload c =
    let s = code_of c.args.code in
    let out = c.args.word.now in
    let e = c.in_err-check_payload.field-0.0 in
    let h : refused c.from_residual.result ≡ number_of e = search rules in
    ap (λ (k : ℕ). written k out) h
    ∙ encode_refused s c.args.payload.now out (number_of e)
    (found s c.args.payload.now (length out) (number_of e) c.in_err-check_payload.ensures (not_zero e)) (not_zero e)

pub size-n-requires : goal.size-n-requires
size-n-requires c =
    let s = code_of c.args.code in
    (given_of (of_first (given_faults s (payload_size s) c.args.payload.now) 0 c.in_ok-check_payload.ensures)).accepts.high

pub returns-then-word-n : goal.returns-then-word-n
returns-then-word-n c =
    let s = code_of c.args.code in
    let out = c.args.word.now in
    let q = c.size-n.ensures.0 in
    let t = c.if-word-n.true in
    encode_refused s c.args.payload.now out 10
    (passed s c.args.payload.now (length out) c.in_ok-check_payload.ensures 10
    (is_first (room_fault (size s) (length out) ∷ []) 10 (here (lt-ltb (length out) (2 ^ c.args.code.m) (omega arith))))) (λ z. omega arith)

pub write_word-requires : goal.write_word-requires
write_word-requires c =
    let s = code_of c.args.code in (
      length-take-le c.size-n.result c.args.word.now c.if-word-n.false ∙ c.size-n.ensures.0,
      given_of (of_first (given_faults s (payload_size s) c.args.payload.now) 0 c.in_ok-check_payload.ensures),
    )

pub returns : goal.returns
returns c =
    let s = code_of c.args.code in
    let out = c.args.word.now in
    let n = c.size-n.result in
    let q = c.size-n.ensures.0 in
    let h = c.if-word-n.false in
    ap (written 0)
    (c.fill_from.ensures
    ∙ filled_behind 0 c.write_word.new.word out n (c.write_word.auto.word ∙ length-take-le n out h) h
    ∙ ap (padded 0 (length out)) c.write_word.ensures)
    ∙ encode_served s c.args.payload.now out
    (passed s c.args.payload.now (length out) c.in_ok-check_payload.ensures 0
    (is_first (room_fault (size s) (length out) ∷ []) 0 (later (le-ltb (length out) (2 ^ c.args.code.m) (omega arith)) none)))
