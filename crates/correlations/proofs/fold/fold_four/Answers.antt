use Rattle.correlations.proofs.FourBins.{four_folded}
use Rattle.correlations.proofs.fold.fold_four.Goals as goal

pub returns : goal.returns
returns c = four_folded c.args.s.now c.requires
