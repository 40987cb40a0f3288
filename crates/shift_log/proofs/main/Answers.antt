-- What a step leaves: counts within their bounds, and a record more where it is not the last.
use Rattle.std.proofs.Common.{sym, ap, ◌∙◌, take, ControlFlow, arith}
use Rattle.log_page.specs.Counts.{step_leaves}
use Rattle.log_page.specs.Stop.{has_ended, counted}
use Rattle.log_page.specs.declared.steps.Totals.{Totals}
use Rattle.shift_log.proofs.main.Goals as goal

pub loop-input-smaller : goal.loop-input-smaller
loop-input-smaller c =
    let w = c.write_step-step in
    let k = c.loop-input.totals in
    let x = step_leaves k.records k.rows (take c.take_record-n.result c.take_record-n.new.input) c.loop-input.invariant.2 in
    let records = sym (ap (λ (f : ControlFlow Totals Totals). (counted f).records) c.in-Continue.is) ∙ w.ensures.records in
    omega (arith, records ∙ x.1 (sym w.ensures.ended ∙ ap has_ended c.in-Continue.is), c.loop-input.invariant.2.0)

pub loop-input-preserved : goal.loop-input-preserved
loop-input-preserved c =
    let w = c.write_step-step in
    let k = c.loop-input.totals in
    let x = (step_leaves k.records k.rows (take c.take_record-n.result c.take_record-n.new.input) c.loop-input.invariant.2).0 in
    let records = sym (ap (λ (f : ControlFlow Totals Totals). (counted f).records) c.in-Continue.is) ∙ w.ensures.records in
    let rows = sym (ap (λ (f : ControlFlow Totals Totals). (counted f).rows) c.in-Continue.is) ∙ w.ensures.rows in (
      c.take_record-n.auto.input ∙ c.loop-input.invariant.0,
      w.auto.out ∙ c.loop-input.invariant.1,
      (omega (arith, records, x.0), omega (arith, records, rows, x.1)),
    )
