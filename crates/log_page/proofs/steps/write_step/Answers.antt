-- The end of the input, a record too many, or one that may come.
use Rattle.log_page.specs.Steps.{end_step, full_step, some_step}
use Rattle.log_page.proofs.Answers.{made_same}
use Rattle.log_page.proofs.steps.write_step.Goals as goal

pub returns-then-bytes-eq0 : goal.returns-then-bytes-eq0
returns-then-bytes-eq0 c =
    let a = c.args in
    made_same (end_step a.totals.records a.totals.rows a.bytes.now c.if-bytes-eq0.true) c.close.ensures

pub returns-then-totals-eq1000 : goal.returns-then-totals-eq1000
returns-then-totals-eq1000 c =
    let a = c.args in
    made_same (full_step a.totals.records a.totals.rows a.bytes.now c.if-bytes-eq0.false c.if-totals-eq1000.true) c.close-then-totals-eq1000.ensures

pub returns : goal.returns
returns c =
    let a = c.args in
    made_same (some_step a.totals.records a.totals.rows a.bytes.now c.if-bytes-eq0.false c.if-totals-eq1000.false) c.write_record.ensures
