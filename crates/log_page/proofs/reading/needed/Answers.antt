-- By the cases of what the head says.
use Rattle.std.proofs.Common.{◌≡◌, sym, ap, ◌∙◌, true≢false, arith, rules}
use Rattle.refusals.specs.declared.Refusal.TheVariants.{FieldMap}
use Rattle.refusals.specs.Number.{number_of, not_zero}
use Rattle.result_refusals.specs.Shape.{end_is}
use Rattle.log_page.specs.Reading.{extent_first, extent_none, extent_all, extent_map, extent_head}
use Rattle.log_page.proofs.Map.{is_map}
use Rattle.log_page.proofs.reading.needed.Goals as goal

pub returns-then-bytes-eq0 : goal.returns-then-bytes-eq0
returns-then-bytes-eq0 c = (extent_first c.args.records c.args.bytes.now c.if-bytes-eq0.true, omega arith)

pub returns-then-records-eq1000 : goal.returns-then-records-eq1000
returns-then-records-eq1000 c = (extent_none c.args.records c.args.bytes.now c.if-records-eq1000.true, omega arith)

pub returns-in-Ok : goal.returns-in-Ok
returns-in-Ok c =
    let f = c.in-Ok.ensures in (
      c.length_of.ensures.0 ∙ end_is f.0 ∙ extent_all c.args.records c.args.bytes.now c.if-bytes-eq0.false c.if-records-eq1000.false f.1,
      c.length_of.ensures.1,
    )

pub returns-then-eq : goal.returns-then-eq
returns-then-eq c =
    let map : c.in-Err.refusal ≡ FieldMap = search rules in
    (extent_map c.args.records c.args.bytes.now c.if-bytes-eq0.false c.if-records-eq1000.false (number_of c.in-Err.refusal) c.in-Err.ensures (ap number_of map), omega arith)

pub returns-else-eq : goal.returns-else-eq
returns-else-eq c =
    let e = c.in-Err.refusal in
    let other : (e ≡ FieldMap → ⊥) = λ q. true≢false (sym (rw q at c.eq.ensures) ∙ c.if-eq.false) in
    (extent_head c.args.records c.args.bytes.now c.if-bytes-eq0.false c.if-records-eq1000.false (number_of e) c.in-Err.ensures (not_zero e) (λ q. other (is_map e q)), omega arith)
