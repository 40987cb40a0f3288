use Rattle.std.proofs.Common.{◌∙◌, ltb, rules}
use Rattle.std.proofs.lemmas.Iterator.{YieldsList-from_slice}
use Rattle.std.proofs.lemmas.Iterator.Search.{any_from_yields_List}
use borrow.Author.Tests.{tests}
use Rattle.packed_rows.proofs.High.{high_rows}
use Rattle.packed_rows.proofs.unpacking.some_high.Goals as goal

pub returns : goal.returns
returns c =
    any_from_yields_List (ltb 15) _ _ _ c.any.ensures.ran (YieldsList-from_slice c.args.packed.now (cc)) (λ x b q k. search (rules, tests))
    ∙ high_rows c.args.packed.now (λ i. (c.type_inv.packed i).fits)
