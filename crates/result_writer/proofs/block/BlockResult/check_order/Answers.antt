-- At each return the tests that were passed, and the one that was not.
use Rattle.std.proofs.Common.{◌≡◌, sym, ◌∙◌, true, false, rules}
use Rattle.std.specs.Int.Signed.{lt_z}
use Rattle.spec.specs.ResultRecord.{first_score}
use Rattle.laws.specs.FirstFault.{none, here, later, is_first}
use Rattle.laws.specs.ResultWriting.{result_order_faults}
use Rattle.result_writer.specs.Given.{given_of}
use Rattle.result_writer.proofs.block.BlockResult.check_order.Goals as goal

pub returns-then-rising : goal.returns-then-rising
returns-then-rising c = is_first (result_order_faults (given_of c.args.self)) 22 (here (sym c.rising.ensures ∙ c.if-rising.true))

pub returns-then-low : goal.returns-then-low
returns-then-low c =
    let r = given_of c.args.self in
    let below : lt_z r.ceiling (first_score r.scores) ≡ true = search rules in
    is_first (result_order_faults r) 22 (later (sym c.rising.ensures ∙ c.if-rising.false) (here below))

pub returns : goal.returns
returns c =
    let r = given_of c.args.self in
    let not_below : lt_z r.ceiling (first_score r.scores) ≡ false = search rules in
    is_first (result_order_faults r) 0 (later (sym c.rising.ensures ∙ c.if-rising.false) (later not_below none))
