-- By what the operator reader's answer says of a record that is read.
use Rattle.std.proofs.Common.{◌≡◌, sym, ap, ◌∙◌, ℕ, List, ℤ, false, length, take, length-take-le, arith}
use Rattle.spec.specs.ResultRecord.{rising, result_says, OperatorReading, operator_reading}
use Rattle.page.specs.Page.{operator_says}
use Rattle.page.specs.Heard.{some_rows, few_rows, falling}
use Rattle.log_page.proofs.steps.write_record.Goals as goal

-- a record of these bytes that is read, and what the reader leaves: what is known of its rows and of its scores
module _ (b : List ℕ) {m rows frame : ℕ} {top : ℤ} (left : List ℤ)
    (said : operator_reading (result_says m rows frame top) left ≡ operator_says b) (room : length left ≡ 32) where
  answer_is : (operator_says b).answer ≡ result_says m rows frame top
  answer_is = ap (λ (x : OperatorReading). x.answer) (sym said)

  front_long : length (take rows left) ≡ rows
  front_long = length-take-le rows left (omega (arith, room, few_rows b answer_is))

  falls : rising (take rows left) ≡ false
  falls = ap (λ (x : OperatorReading). rising (take rows x.scores)) said ∙ falling b answer_is

pub slice_bounds-scores-end : goal.slice_bounds-scores-end
slice_bounds-scores-end c =
    let o = c.read_result_operator in
    omega (arith, o.auto.scores, few_rows c.args.bytes.now (answer_is c.args.bytes.now o.new.scores c.in-Ok.ensures o.auto.scores))

pub slice_bounds-enter-end : goal.slice_bounds-enter-end
slice_bounds-enter-end c =
    let o = c.read_result_operator in
    sym (front_long c.args.bytes.now o.new.scores c.in-Ok.ensures o.auto.scores)

pub enter-requires : goal.enter-requires
enter-requires c =
    let o = c.read_result_operator in
    let b = c.args.bytes.now in
    let answer = answer_is b o.new.scores c.in-Ok.ensures o.auto.scores in
    let long = front_long b o.new.scores c.in-Ok.ensures o.auto.scores in (
      c.requires.0,
      omega (arith, long, some_rows b answer),
      few_rows b answer,
      falls b o.new.scores c.in-Ok.ensures o.auto.scores,
      c.requires.1,
    )
