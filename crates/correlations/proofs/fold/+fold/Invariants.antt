use Rattle.correlations.proofs.fold.+fold.Given as goal

abbrev pub decreases-fold : goal.decreases-fold
decreases-fold l = l.r
