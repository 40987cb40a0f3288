-- The length decides.
use Rattle.std.proofs.Common.{refl, sym, ◌∙◌, length}
use Rattle.spec.specs.ResultRecord.{result_end, result_length_faults}
use Rattle.laws.specs.FirstFault.{none, here, later, is_first, differ, same}
use Rattle.result_refusals.specs.Shape.{end_is}
use Rattle.result_refusals.proofs.shape.locate_parts.Goals as goal

pub returns-then-bytes-end : goal.returns-then-bytes-end
returns-then-bytes-end c =
    let b = c.args.bytes.now in
    is_first (result_length_faults b) 13
    (here (differ (length b) (result_end b) (λ q. c.if-bytes-end.true (q ∙ sym (c.length_of-end.ensures.0 ∙ end_is c.requires)))))

pub returns : goal.returns
returns c =
    let b = c.args.bytes.now in
    (refl, is_first (result_length_faults b) 0 (later (same (length b) (result_end b) (c.if-bytes-end.false ∙ c.length_of-end.ensures.0 ∙ end_is c.requires)) none))
