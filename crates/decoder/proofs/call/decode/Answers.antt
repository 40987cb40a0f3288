use Rattle.std.proofs.Common.{◌≡◌, refl, ap, ◌∙◌, ℕ, ◌*◌, ◌/◌, ◌^◌, arith, rules}
use Rattle.spec.specs.Outcome.{Answer, Lent, decoding, lent, refused_by}
use Rattle.code.specs.Codes.{code_of}
use Rattle.refusals.specs.Number.{number_of}
use Rattle.decoder.specs.Answers.{answer_of}
use Rattle.decoder.proofs.Refusing.{by_room, refused_call, serve_fits, served_call}
use Rattle.decoder.proofs.call.decode.Goals as goal

pub returns-in_err-check_decode : goal.returns-in_err-check_decode
returns-in_err-check_decode c =
    let a = c.args in
    let x : Lent = lent a.numbers.now a.bytes.now a.inputs.now a.words.now a.scores.now in
    let told : answer_of c.from_residual.result ≡ refused_by (number_of c.in_err-check_decode.field-0.0) = search rules in
    ap (λ (k : Answer). decoding k x) told
    ∙ refused_call (code_of a.code) a.l a.p a.soft.now x c.in_err-check_decode.field-0.0
    (by_room (code_of a.code) a.l a.p a.soft.now c.of-room.ensures (c.in_err-check_decode.ensures a.code.arikan))

pub size-n-requires : goal.size-n-requires
size-n-requires c =
    let a = c.args in
    let n : ℕ = 2 ^ a.code.m in
    (serve_fits (code_of a.code) a.l a.p a.soft.now _ (c.in_ok-check_decode.ensures a.code.arikan) n (n / 2 * a.l) refl refl).accepts.high

pub times-h-requires : goal.times-h-requires
times-h-requires c =
    let a = c.args in
    let n : ℕ = 2 ^ a.code.m in
    (omega (arith, c.size-n.ensures.1), omega (arith, (serve_fits (code_of a.code) a.l a.p a.soft.now _ (c.in_ok-check_decode.ensures a.code.arikan) n (n / 2 * a.l) refl refl).list))

pub serve-requires : goal.serve-requires
serve-requires c =
    let a = c.args in
    serve_fits (code_of a.code) a.l a.p a.soft.now _
    (by_room (code_of a.code) a.l a.p a.soft.now c.of-room.ensures (c.in_ok-check_decode.ensures a.code.arikan))
    _ _ c.size-n.ensures.0 c.times-h.ensures.0

pub returns : goal.returns
returns c =
    let a = c.args in
    c.serve.ensures
    ∙ served_call (code_of a.code) a.l a.p a.soft.now (lent a.numbers.now a.bytes.now a.inputs.now a.words.now a.scores.now)
    (by_room (code_of a.code) a.l a.p a.soft.now c.of-room.ensures (c.in_ok-check_decode.ensures a.code.arikan))
