-- What `any` found is what `crowded` says, entry by entry.
use Rattle.std.proofs.Common.{◌||◌, leb, refl, ◌∙◌, rules, tests}
use Rattle.std.specs.List.{list_any}
use Rattle.std.proofs.lemmas.Iterator.{YieldsList-from_slice}
use Rattle.std.proofs.lemmas.Iterator.Search.{any_from_yields_List}
use Rattle.std.proofs.lemmas.List.Recursion.{same_from_clauses}
use Rattle.live.specs.Entries.{place_of, crowded}
use Rattle.live.proofs.is_crowded.Goals as goal

pub returns : goal.returns
returns c =
    let xs = c.args.entries.now in
    any_from_yields_List (λ x. leb 67108864 (place_of x)) _ _ c.any.result c.any.ensures.ran (YieldsList-from_slice xs cc) (λ x b q k. search (rules, tests))
    ∙ same_from_clauses (list_any (λ x. leb 67108864 (place_of x))) crowded (λ x b. leb 67108864 (place_of x) || b) refl (λ x xs. refl) (λ x xs. refl) xs
