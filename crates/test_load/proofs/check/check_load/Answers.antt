-- At each return the tests that were passed and the one that was not. The room for the record is measured before anything is drawn, since
-- its length does not depend on the soft values.
use Rattle.std.proofs.Common.{◌≡◌, ap, ◌∙◌, rules, List, [], ◌∷◌, ℕ, ◌≤◌, ℤ, length, arith, eq-eqb, ne_eqb, lt-ltb, le-ltb}
use Rattle.spec.specs.Code.{Code, code, size, payload_size}
use Rattle.spec.specs.Faults.{first}
use Rattle.spec.specs.Refusals.{code_faults, room_fault}
use Rattle.spec.specs.JobWriter.{fields_of, written_record}
use Rattle.spec.specs.TestLoad.{drawn_soft, load_record, load_refusal}
use Rattle.refusals.specs.Number.{number_of, refused, not_zero}
use Rattle.laws.specs.FirstFault.{First, none, here, later}
use Rattle.laws.specs.Accepted.{Accepted, accepted}
use Rattle.laws.specs.LoadCall.{length_soft, code_refused, own_refused}
use Rattle.code.specs.Codes.{code_of}
use Rattle.test_load.proofs.check.check_load.Goals as goal

module _ (s : ℕ) (c : Code) (frame : ℕ) where
  -- what was measured
  need : {n r : ℕ} → Accepted c → n ≡ size c → ((soft : List ℤ) → length soft ≡ size c → r ≡ length (written_record (fields_of c 4 n frame soft)))
      → r ≡ length (load_record s c frame)
  unfolding load_record
  need a e f = f (drawn_soft s c) (length_soft s c a) ∙ ap (λ (n : ℕ). length (written_record (fields_of c 4 n frame (drawn_soft s c)))) e

  -- past the test of the room for the record the number is that of the last test
  last : (payloads : ℕ) {records r : ℕ} → 0 ≡ first (code_faults c) → (s ≡ 0 → ⊥) → r ≡ length (load_record s c frame) → r ≤ records
      → (k : ℕ) → First (room_fault (payload_size c) payloads ∷ []) k → k ≡ load_refusal s c frame records payloads
  last payloads {records} e x q h k f =
      own_refused s c frame records payloads e k
      (later (ne_eqb s 0 x) (later (le-ltb records (length (load_record s c frame)) (omega (arith, q))) f))

pub returns-in_err-check : goal.returns-in_err-check
returns-in_err-check c =
    let e = c.in_err-check.field-0.0 in
    let h : refused c.from_residual.result ≡ number_of e = search rules in
    h ∙ code_refused c.args.s (code_of c.args.code) c.args.frame c.args.records c.args.payloads (number_of e)
    (c.in_err-check.ensures c.args.code.arikan) (not_zero e)

pub size-n-requires : goal.size-n-requires
size-n-requires c = (accepted (code_of c.args.code) (c.in_ok-check.ensures c.args.code.arikan)).high

pub record_length-need-requires : goal.record_length-need-requires
record_length-need-requires c = λ arikan.
    let s = c.args.code in
    accepted (code s.m arikan s.map.now s.pairs.now) (c.in_ok-check.ensures arikan)

pub payload_size-k-requires : goal.payload_size-k-requires
payload_size-k-requires c =
    let a = accepted (code_of c.args.code) (c.in_ok-check.ensures c.args.code.arikan) in
    (a.high, a.bytes, a.ends)

pub returns-then-s-eq0 : goal.returns-then-s-eq0
returns-then-s-eq0 c =
    let x = c.args in
    own_refused x.s (code_of x.code) x.frame x.records x.payloads (c.in_ok-check.ensures x.code.arikan) 24 (here (eq-eqb x.s 0 c.if-s-eq0.true))

pub returns-then-records-need : goal.returns-then-records-need
returns-then-records-need c =
    let x = c.args in
    let k = code_of x.code in
    let p = c.in_ok-check.ensures x.code.arikan in
    let n = need x.s k x.frame (accepted k p) c.size-n.ensures.0 (c.record_length-need.ensures.0 x.code.arikan) in
    own_refused x.s k x.frame x.records x.payloads p 10
    (later (ne_eqb x.s 0 c.if-s-eq0.false) (here (lt-ltb x.records (length (load_record x.s k x.frame)) (omega (arith, n, c.if-records-need.true)))))

pub returns-then-payloads-k : goal.returns-then-payloads-k
returns-then-payloads-k c =
    let x = c.args in
    let k = code_of x.code in
    let p = c.in_ok-check.ensures x.code.arikan in
    let n = need x.s k x.frame (accepted k p) c.size-n.ensures.0 (c.record_length-need.ensures.0 x.code.arikan) in
    let q = c.payload_size-k.ensures x.code.arikan x.code.pairs.now in
    last x.s k x.frame x.payloads p c.if-s-eq0.false n c.if-records-need.false 10
    (here (lt-ltb x.payloads (payload_size k) (omega (arith, q, c.if-payloads-k.true))))

pub returns : goal.returns
returns c =
    let x = c.args in
    let k = code_of x.code in
    let p = c.in_ok-check.ensures x.code.arikan in
    let n = need x.s k x.frame (accepted k p) c.size-n.ensures.0 (c.record_length-need.ensures.0 x.code.arikan) in
    let q = c.payload_size-k.ensures x.code.arikan x.code.pairs.now in
    last x.s k x.frame x.payloads p c.if-s-eq0.false n c.if-records-need.false 0
    (later (le-ltb x.payloads (payload_size k) (omega (arith, q, c.if-payloads-k.false))) none)
