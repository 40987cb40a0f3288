-- At each return the tests that were passed and the one that was not, and at the last the payload with 0 behind it.
use Rattle.std.proofs.Common.{◌≡◌, sym, ap, subst, ◌∙◌, Bool, List, ℕ, ◌*◌, ◌^◌, ◌≤◌, length, ltb, arith, lt-ltb, le-ltb, length-take-le}
use Rattle.spec.specs.Code.{Code, frozen, clear, gathered, broken, broken_from}
use Rattle.spec.specs.Outcome.{padded, written}
use Rattle.laws.specs.Accepted.{Ruled}
use Rattle.laws.specs.FirstFault.{none, here, later, is_first}
use Rattle.laws.specs.MapBits.{flags_of, enough_bits}
use Rattle.slices.specs.Fill.{filled_behind}
use Rattle.code.specs.Codes.{code_of}
use Rattle.code.specs.Given.{flags_are}
use Rattle.extractor.specs.ExtractCall.{input_faults, payload_refused, payload_served}
use Rattle.extractor.proofs.write_payload.Goals as goal

-- the test of the input, over the code
broken_test : (c : Code) (input : List ℕ) (fs : List ℕ) (b : Bool) → fs ≡ frozen c → b ≡ broken_from c input 0 fs → broken c input ≡ b
unfolding broken
broken_test c input fs b f e = sym (e ∙ ap (broken_from c input 0) f)

pub breaks_rule-outside-requires : goal.breaks_rule-outside-requires
breaks_rule-outside-requires c =
    let s = c.args.code in
    let a = c.requires.0 in
    let f = flags_are s.m (length c.args.input.now) s.arikan s.map.now s.pairs.now c.requires.1 in
    let b : 2 ^ s.m ≤ 8 * length s.map.now = enough_bits (2 ^ s.m) s.map.now a.bytes in
    (omega arith, subst (λ (fs : List ℕ). Ruled fs s.pairs.now) (sym f) a.ruled)

pub returns-then-outside : goal.returns-then-outside
returns-then-outside c =
    let s = c.args.code in
    let u = c.args.input.now in
    let out = c.args.payload.now in
    let f = flags_are s.m (length u) s.arikan s.map.now s.pairs.now c.requires.1 in
    let t = broken_test (code_of s) u (flags_of (length u) s.map.now) c.breaks_rule-outside.result f (c.breaks_rule-outside.ensures s.m s.arikan) in
    payload_refused (code_of s) u out 12 (is_first (input_faults (code_of s) u (length out)) 12 (here (t ∙ c.if-outside.true))) (λ z. omega arith)

pub returns-then-short : goal.returns-then-short
returns-then-short c =
    let s = c.args.code in
    let u = c.args.input.now in
    let out = c.args.payload.now in
    let f = flags_are s.m (length u) s.arikan s.map.now s.pairs.now c.requires.1 in
    let t = broken_test (code_of s) u (flags_of (length u) s.map.now) c.breaks_rule-outside.result f (c.breaks_rule-outside.ensures s.m s.arikan) in
    let k = ap (ltb (length out)) (sym (c.payload_size-k.ensures s.arikan s.pairs.now)) in
    payload_refused (code_of s) u out 10
    (is_first (input_faults (code_of s) u (length out)) 10
    (later (t ∙ c.if-outside.false) (here (k ∙ lt-ltb (length out) c.payload_size-k.result c.if-short.true)))) (λ z. omega arith)

pub gather_payload-requires : goal.gather_payload-requires
gather_payload-requires c =
    let s = c.args.code in
    let f = flags_are s.m (length c.args.input.now) s.arikan s.map.now s.pairs.now c.requires.1 in
    let b : 2 ^ s.m ≤ 8 * length s.map.now = enough_bits (2 ^ s.m) s.map.now c.requires.0.bytes in
    (omega arith, ap clear f ∙ sym (length-take-le c.payload_size-k.result c.args.payload.now c.if-short.false ∙ (c.payload_size-k.ensures s.arikan s.pairs.now)))

pub returns : goal.returns
returns c =
    let s = c.args.code in
    let u = c.args.input.now in
    let out = c.args.payload.now in
    let k = c.payload_size-k.result in
    let h = c.if-short.false in
    let f = flags_are s.m (length u) s.arikan s.map.now s.pairs.now c.requires.1 in
    let t = broken_test (code_of s) u (flags_of (length u) s.map.now) c.breaks_rule-outside.result f (c.breaks_rule-outside.ensures s.m s.arikan) in
    let q = ap (ltb (length out)) (sym (c.payload_size-k.ensures s.arikan s.pairs.now)) in
    ap (written 0)
    (c.fill_from.ensures
    ∙ filled_behind 0 c.gather_payload.new.payload out k (c.gather_payload.auto.payload ∙ length-take-le k out h) h
    ∙ ap (padded 0 (length out)) (c.gather_payload.ensures ∙ ap (λ (fs : List ℕ). gathered fs u) f))
    ∙ payload_served (code_of s) u out
    (is_first (input_faults (code_of s) u (length out)) 0
    (later (t ∙ c.if-outside.false) (later (q ∙ le-ltb (length out) k h) none)))
