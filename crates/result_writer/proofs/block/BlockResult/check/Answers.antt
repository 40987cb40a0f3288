-- What is given, and then its order.
use Rattle.std.proofs.Common.{◌≡◌, refl, ◌∙◌, ◌≤◌, length, arith, rules}
use Rattle.spec.specs.ResultWriter.{Result}
use Rattle.laws.specs.FirstFault.{First, none, later, of_first, first_before, first_after, inside_of, same_of}
use Rattle.laws.specs.ResultWriting.{result_given_faults, result_order_faults, result_given_numbers}
use Rattle.refusals.specs.Number.{number_of, refused, not_zero}
use Rattle.result_writer.specs.Given.{given_of}
use Rattle.result_writer.proofs.block.BlockResult.check.Goals as goal

-- what passed the first tests has a score
a_score : (r : Result) → First (result_given_faults r) 0 → 1 ≤ length r.scores
a_score r (later a (later b (later c (later d (later f none))))) = omega (arith, (inside_of 1 32 r.rows b).0, same_of (length r.scores) r.rows d)

pub returns-in_err-check_given : goal.returns-in_err-check_given
returns-in_err-check_given c =
    let r = given_of c.args.self in
    let e = c.in_err-check_given.field-0.0 in
    let same : refused c.from_residual.result ≡ number_of e = search rules in
    same ∙ first_before (result_given_faults r) (result_order_faults r) (number_of e) c.in_err-check_given.ensures (not_zero e)

pub check_order-requires : goal.check_order-requires
check_order-requires c =
    let r = given_of c.args.self in
    a_score r (of_first (result_given_faults r) 0 c.in_ok-check_given.ensures)

pub returns : goal.returns
returns c =
    let r = given_of c.args.self in
    first_after (result_given_faults r) (result_order_faults r) 0 c.in_ok-check_given.ensures (result_given_numbers r) refl (refused c.check_order.result)
    c.check_order.ensures
