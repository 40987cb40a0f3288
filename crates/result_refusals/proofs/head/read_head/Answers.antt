-- At each return the tests that were passed, and the one that was not.
use Rattle.std.proofs.Common.{◌≡◌, List, ℕ, ◌≤◌, length, drop, arith, lt-ltb, le-ltb, eq-eqb, ne_eqb}
use Rattle.spec.specs.Record.{fields, exponent}
use Rattle.spec.specs.ResultRecord.{row_count, result_head_faults}
use Rattle.laws.specs.FirstFault.{First, none, here, later, is_first, below, above, inside}
use Rattle.result_refusals.proofs.head.read_head.Goals as goal

-- the table behind its first three conditions, and behind all but the last
module _ (s : List ℕ) (some : length s ≡ 0 → ⊥) (known : fields s ≤ 3) (begun : 3 ≤ length s) {k : ℕ} where
  past_3 : First (drop 3 (result_head_faults s)) k → First (result_head_faults s) k
  past_3 f = later (ne_eqb (length s) 0 some) (later (le-ltb 3 (fields s) known) (later (le-ltb (length s) 3 begun) f))

  past_4 : 2 ≤ exponent s → exponent s ≤ 10 → First (drop 4 (result_head_faults s)) k → First (result_head_faults s) k
  past_4 low high f = past_3 (later (inside 2 10 (exponent s) low high) f)

pub returns-then-bytes-eq0 : goal.returns-then-bytes-eq0
returns-then-bytes-eq0 c =
    let s = c.args.bytes.now in
    is_first (result_head_faults s) 13 (here (eq-eqb (length s) 0 c.if-bytes-eq0.true))

pub returns-then-fields-gt3 : goal.returns-then-fields-gt3
returns-then-fields-gt3 c =
    let s = c.args.bytes.now in
    is_first (result_head_faults s) 14
    (later (ne_eqb (length s) 0 c.if-bytes-eq0.false) (here (lt-ltb 3 (fields s) (omega (arith, c.from-fields.ensures, c.if-fields-gt3.true)))))

pub returns-then-bytes-lt3 : goal.returns-then-bytes-lt3
returns-then-bytes-lt3 c =
    let s = c.args.bytes.now in
    is_first (result_head_faults s) 13
    (later (ne_eqb (length s) 0 c.if-bytes-eq0.false) (later (le-ltb 3 (fields s) (omega (arith, c.from-fields.ensures, c.if-fields-gt3.false)))
    (here (lt-ltb (length s) 3 c.if-bytes-lt3.true))))

pub returns-then-m-lt2 : goal.returns-then-m-lt2
returns-then-m-lt2 c =
    let s = c.args.bytes.now in
    is_first (result_head_faults s) 1
    (past_3 s c.if-bytes-eq0.false (omega (arith, c.from-fields.ensures, c.if-fields-gt3.false)) c.if-bytes-lt3.false
    (here (below 2 10 (exponent s) (omega (arith, c.from-m.ensures, c.if-m-lt2.true)))))

pub returns-then-m-gt10 : goal.returns-then-m-gt10
returns-then-m-gt10 c =
    let s = c.args.bytes.now in
    is_first (result_head_faults s) 1
    (past_3 s c.if-bytes-eq0.false (omega (arith, c.from-fields.ensures, c.if-fields-gt3.false)) c.if-bytes-lt3.false
    (here (above 2 10 (exponent s) (omega (arith, c.from-m.ensures, c.if-m-gt10.true)))))

pub returns-then-rows-lt1 : goal.returns-then-rows-lt1
returns-then-rows-lt1 c =
    let s = c.args.bytes.now in
    is_first (result_head_faults s) 4
    (past_4 s c.if-bytes-eq0.false (omega (arith, c.from-fields.ensures, c.if-fields-gt3.false)) c.if-bytes-lt3.false
    (omega (arith, c.from-m.ensures, c.if-m-lt2.false)) (omega (arith, c.from-m.ensures, c.if-m-gt10.false))
    (here (below 1 32 (row_count s) (omega (arith, c.from-rows.ensures, c.if-rows-lt1.true)))))

pub returns-then-rows-gt32 : goal.returns-then-rows-gt32
returns-then-rows-gt32 c =
    let s = c.args.bytes.now in
    is_first (result_head_faults s) 4
    (past_4 s c.if-bytes-eq0.false (omega (arith, c.from-fields.ensures, c.if-fields-gt3.false)) c.if-bytes-lt3.false
    (omega (arith, c.from-m.ensures, c.if-m-lt2.false)) (omega (arith, c.from-m.ensures, c.if-m-gt10.false))
    (here (above 1 32 (row_count s) (omega (arith, c.from-rows.ensures, c.if-rows-gt32.true)))))

pub returns : goal.returns
returns c =
    let s = c.args.bytes.now in
    let known : fields s ≤ 3 = omega (arith, c.from-fields.ensures, c.if-fields-gt3.false) in
    let low : 2 ≤ exponent s = omega (arith, c.from-m.ensures, c.if-m-lt2.false) in
    let high : exponent s ≤ 10 = omega (arith, c.from-m.ensures, c.if-m-gt10.false) in
    let some : 1 ≤ row_count s = omega (arith, c.from-rows.ensures, c.if-rows-lt1.false) in
    let few : row_count s ≤ 32 = omega (arith, c.from-rows.ensures, c.if-rows-gt32.false) in (
      record {
        fields_are = c.from-fields.ensures;
        m_is = c.from-m.ensures;
        rows_are = c.from-rows.ensures;
        begun = c.if-bytes-lt3.false;
        known = known;
        low = low;
        high = high;
        some_rows = some;
        few_rows = few;
      },
      is_first (result_head_faults s) 0 (past_4 s c.if-bytes-eq0.false known c.if-bytes-lt3.false low high (later (inside 1 32 (row_count s) some few) none)),
    )
