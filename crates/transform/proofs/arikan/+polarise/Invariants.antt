use Rattle.transform.proofs.arikan.+polarise.Given as goal

abbrev pub decreases-polarise : goal.decreases-polarise
decreases-polarise l = l.m
