-- One equation with the outcome for every call.
use Rattle.std.proofs.Common.{◌≡◌, refl, ap, ◌∙◌, ℕ, rules}
use mir.Syntax.{w32}
use mir.Val.{to_z, of_z}
use mir.ValLaws.{to_z-of_z}
use Rattle.spec.specs.Outcome.{Lent, lent}
use Rattle.spec.specs.WordList.{Count, listing, refused_count}
use Rattle.code.specs.Codes.{code_of}
use Rattle.refusals.specs.Number.{number_of}
use Rattle.list_words.specs.Answers.{answer_of}
use Rattle.list_words.proofs.Refusing.{by_room, serve_fits, refused_call, served_call}
use Rattle.list_words.proofs.call.list_words.Goals as goal

pub returns-in_err-check_list : goal.returns-in_err-check_list
returns-in_err-check_list c =
    let a = c.args in
    let x : Lent = lent a.numbers.now a.bytes.now a.inputs.now a.words.now a.scores.now in
    let told : answer_of c.from_residual.result ≡ refused_count (number_of c.in_err-check_list.field-0.0) = search rules in
    ap (λ (k : Count). listing k x) told
    ∙ refused_call (code_of a.code) a.soft.now a.mark x c.in_err-check_list.field-0.0
    (by_room (code_of a.code) a.soft.now c.of.ensures c.in_err-check_list.ensures)

pub size-n-requires : goal.size-n-requires
size-n-requires c = (serve_fits (code_of c.args.code) c.args.soft.now _ c.in_ok-check_list.ensures _ _ refl refl).accepts.high

pub payload_size-k-requires : goal.payload_size-k-requires
payload_size-k-requires c =
    let a = (serve_fits (code_of c.args.code) c.args.soft.now _ c.in_ok-check_list.ensures _ _ refl refl).accepts in
    (a.high, a.bytes, a.ends)

pub serve-requires : goal.serve-requires
serve-requires c =
    let a = c.args in
    serve_fits (code_of a.code) a.soft.now _ (by_room (code_of a.code) a.soft.now c.of.ensures c.in_ok-check_list.ensures)
    _ _ c.size-n.ensures.0 (c.payload_size-k.ensures a.code.arikan a.code.pairs.now)

pub returns : goal.returns
returns c =
    let a = c.args in
    served_call (code_of a.code) a.soft.now a.mark (to_z w32 (of_z w32 a.mark)) (lent a.numbers.now a.bytes.now a.inputs.now a.words.now a.scores.now)
    (to_z-of_z w32 a.mark c.ranges.mark)
    (by_room (code_of a.code) a.soft.now c.of.ensures c.in_ok-check_list.ensures) _ c.serve.ensures
