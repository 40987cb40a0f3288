-- At each return the tests that were passed, and the one that was not.
use Rattle.std.proofs.Common.{◌≤◌, ◌<◌, length, eq-eqb, ne_eqb, lt-ltb, le-ltb, arith}
use Rattle.spec.specs.Record.{fields, exponent, shape_faults}
use Rattle.laws.specs.FirstFault.{here, later, is_first, below, above}
use Rattle.job_refusals.proofs.Located.{past, passed}
use Rattle.job_refusals.proofs.shape.locate.Goals as goal

pub returns-then-bytes-eq0 : goal.returns-then-bytes-eq0
returns-then-bytes-eq0 c = let s = c.args.bytes.now in is_first (shape_faults s) 13 (here (eq-eqb (length s) 0 c.if-bytes-eq0.true))

pub returns-then-fields-gt31 : goal.returns-then-fields-gt31
returns-then-fields-gt31 c =
    let s = c.args.bytes.now in
    let unknown : 31 < fields s = omega (arith, c.wide-fields.ensures.0, c.if-fields-gt31.true) in
    is_first (shape_faults s) 14 (later (ne_eqb (length s) 0 c.if-bytes-eq0.false) (here (lt-ltb 31 (fields s) unknown)))

pub returns-then-bytes-eq1 : goal.returns-then-bytes-eq1
returns-then-bytes-eq1 c =
    let s = c.args.bytes.now in
    let known : fields s ≤ 31 = omega (arith, c.wide-fields.ensures.0, c.if-fields-gt31.false) in
    is_first (shape_faults s) 13
    (later (ne_eqb (length s) 0 c.if-bytes-eq0.false) (later (le-ltb 31 (fields s) known) (here (eq-eqb (length s) 1 c.if-bytes-eq1.true))))

pub returns-then-m-lt2 : goal.returns-then-m-lt2
returns-then-m-lt2 c =
    let s = c.args.bytes.now in
    let known : fields s ≤ 31 = omega (arith, c.wide-fields.ensures.0, c.if-fields-gt31.false) in
    let low : exponent s < 2 = omega (arith, c.wide-m.ensures.0, c.if-m-lt2.true) in
    is_first (shape_faults s) 1
    (later (ne_eqb (length s) 0 c.if-bytes-eq0.false) (later (le-ltb 31 (fields s) known) (later (ne_eqb (length s) 1 c.if-bytes-eq1.false)
    (here (below 2 10 (exponent s) low)))))

pub returns-then-m-gt10 : goal.returns-then-m-gt10
returns-then-m-gt10 c =
    let s = c.args.bytes.now in
    let known : fields s ≤ 31 = omega (arith, c.wide-fields.ensures.0, c.if-fields-gt31.false) in
    let high : 10 < exponent s = omega (arith, c.wide-m.ensures.0, c.if-m-gt10.true) in
    is_first (shape_faults s) 1
    (later (ne_eqb (length s) 0 c.if-bytes-eq0.false) (later (le-ltb 31 (fields s) known) (later (ne_eqb (length s) 1 c.if-bytes-eq1.false)
    (here (above 2 10 (exponent s) high)))))

pub returns : goal.returns
returns c =
    let s = c.args.bytes.now in
    let known : fields s ≤ 31 = omega (arith, c.wide-fields.ensures.0, c.if-fields-gt31.false) in
    let low : 2 ≤ exponent s = omega (arith, c.wide-m.ensures.0, c.if-m-lt2.false) in
    let high : exponent s ≤ 10 = omega (arith, c.wide-m.ensures.0, c.if-m-gt10.false) in
    passed s (λ k f. past s c.if-bytes-eq0.false known c.if-bytes-eq1.false low high f) c.locate_parts.result c.locate_parts.ensures
