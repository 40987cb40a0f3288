-- What `filter` lets through and `count` counts is what `below` says, entry by entry.
use Rattle.std.proofs.Common.{ℕ, cond, ltb, refl, sym, ◌∙◌, rules, tests}
use Rattle.std.proofs.lemmas.Iterator.{YieldsList-from_slice}
use Rattle.std.proofs.lemmas.Iterator.Consumers.{YieldsList-at, YieldsList-from_filter, count_from_yields_List}
use Rattle.std.proofs.lemmas.List.Sums.{length-filter}
use Rattle.std.proofs.lemmas.List.Recursion.{is_sum_by}
use Rattle.live.specs.Entries.{place_of, below}
use Rattle.live.proofs.places_below.Goals as goal

pub returns : goal.returns
returns c =
    let xs = c.args.entries.now in
    let p = λ (x : ℕ). ltb (place_of x) c.args.t in
    count_from_yields_List c.filter.result c.count.result c.count.ensures.ran (YieldsList-from_filter _ p (YieldsList-at c.filter.ensures.source (YieldsList-from_slice xs cc)) c.filter.ensures.closure (λ x r q k. search (rules, tests)))
    ∙ length-filter p xs
    ∙ sym (is_sum_by (below c.args.t) (λ x. cond (p x) 1 0) refl (λ x xs. refl) xs)
