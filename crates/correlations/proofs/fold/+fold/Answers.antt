-- Each call is lent a half of 2 ^ (r - 1) bins.
use Rattle.std.proofs.Common.{◌≡◌, ℕ, ◌+◌, ◌^◌, map, ap, sym, ◌∙◌, arith}
use Rattle.correlations.specs.Folding.{wrapped, folded}
use Rattle.correlations.proofs.FoldHalves.{two_halves, call, halves_folded}
use Rattle.correlations.proofs.fold.+fold.Goals as goal

pub returns-then-r-eq0 : goal.returns-then-r-eq0
unfolding folded
returns-then-r-eq0 t c zs e = e ∙ ap (λ (k : ℕ). map wrapped (folded k zs)) (sym c.if-r-eq0.true)

pub cross_halves-requires : goal.cross_halves-requires
cross_halves-requires t c = c.requires.0 ∙ two_halves c.args.r c.args.h c.requires.1 (omega arith)

pub fold-requires : goal.fold-requires
fold-requires t c = (omega arith, call c.args.r c.args.h c.requires.1 (omega arith) _ c.split_at_mut-v.ensures.front_len)

pub fold-requires-2 : goal.fold-requires-2
fold-requires-2 t c =
    let e : 2 ^ c.args.r ≡ c.args.h + c.args.h = two_halves c.args.r c.args.h c.requires.1 (omega arith) in
    (omega arith, call c.args.r c.args.h c.requires.1 (omega arith) _ (omega arith))

pub returns : goal.returns
returns t c =
    halves_folded c.args.r c.args.h c.requires.1 (omega arith) c.requires.0 c.cross_halves.ensures
    (λ us p. c.fold.ensures us (c.split_at_mut-v.ensures.front ∙ p))
    (λ us p. c.fold-2.ensures us (c.split_at_mut-v.ensures.back ∙ p))
