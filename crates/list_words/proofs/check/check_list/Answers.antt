-- The code, then k, then what is lent.
use Rattle.std.proofs.Common.{◌≡◌, refl, sym, ap, ◌∙◌, false, List, ◌∷◌, ◌++◌, ℕ, ◌^◌, ◌≤◌, ℤ, ltb, lt-ltb, le-ltb, arith, rules}
use lib.Pow.{pow_mono}
use Rattle.spec.specs.Code.{Code, size, payload_size}
use Rattle.spec.specs.Faults.{Fault, fault, first}
use Rattle.spec.specs.Refusals.{Room, code_faults}
use Rattle.spec.specs.WordList.{list_room_faults}
use Rattle.refusals.specs.Number.{refused, number_of, not_zero}
use Rattle.refusals.specs.Places.{places_of}
use Rattle.laws.specs.FirstFault.{First, here, later, of_first, is_first, first_before, first_after}
use Rattle.laws.specs.Accepted.{Accepted, accepted, code_numbers}
use Rattle.code.specs.Codes.{code_of}
use Rattle.list_words.proofs.check.check_list.Goals as goal

abbrev rest : Code → List ℤ → Room → List Fault
rest c soft r = fault 20 (ltb 20 (payload_size c)) ∷ list_room_faults (size c) soft r

-- past the code the rest decides
decided : (c : Code) (soft : List ℤ) (r : Room) (k : ℕ) → 0 ≡ first (code_faults c) → First (rest c soft r) k → k ≡ first (code_faults c ++ rest c soft r)
decided c soft r k z f = first_after (code_faults c) (rest c soft r) 0 z (code_numbers c) refl k (is_first (rest c soft r) k f)

pub returns-in_err-check : goal.returns-in_err-check
returns-in_err-check c =
    let o : Code = code_of c.args.code in
    let told : refused c.from_residual.result ≡ number_of c.in_err-check.field-0.0 = search rules in
    told ∙ first_before (code_faults o) (rest o c.args.soft.now (places_of c.args.lent)) _ (c.in_err-check.ensures c.args.code.arikan) (not_zero c.in_err-check.field-0.0)

pub payload_size-k-requires : goal.payload_size-k-requires
payload_size-k-requires c =
    let a : Accepted (code_of c.args.code) = accepted (code_of c.args.code) (c.in_ok-check.ensures c.args.code.arikan) in
    (a.high, a.bytes, a.ends)

pub returns-then-k-gt20 : goal.returns-then-k-gt20
returns-then-k-gt20 c =
    let o : Code = code_of c.args.code in
    decided o c.args.soft.now (places_of c.args.lent) 20 (c.in_ok-check.ensures c.args.code.arikan)
    (here (sym (ap (ltb 20) (c.payload_size-k.ensures c.args.code.arikan c.args.code.pairs.now)) ∙ lt-ltb 20 c.payload_size-k.result c.if-k-gt20.true))

pub size-n-requires : goal.size-n-requires
size-n-requires c = (accepted (code_of c.args.code) (c.in_ok-check.ensures c.args.code.arikan)).high

pub check_room-requires : goal.check_room-requires
check_room-requires c =
    let a : Accepted (code_of c.args.code) = accepted (code_of c.args.code) (c.in_ok-check.ensures c.args.code.arikan) in
    let some : 2 ^ 2 ≤ 2 ^ c.args.code.m = pow_mono {i = 2} {j = c.args.code.m} a.low in
    (omega (arith, some, c.size-n.ensures.0), c.size-n.ensures.1)

pub returns : goal.returns
returns c =
    let o : Code = code_of c.args.code in
    let r : Room = places_of c.args.lent in
    decided o c.args.soft.now r _ (c.in_ok-check.ensures c.args.code.arikan)
    (later (sym (ap (ltb 20) (c.payload_size-k.ensures c.args.code.arikan c.args.code.pairs.now)) ∙ le-ltb 20 c.payload_size-k.result c.if-k-gt20.false)
    (of_first (list_room_faults (size o) c.args.soft.now r) _
    (c.check_room.ensures ∙ ap (λ (n : ℕ). first (list_room_faults n c.args.soft.now r)) c.size-n.ensures.0)))
