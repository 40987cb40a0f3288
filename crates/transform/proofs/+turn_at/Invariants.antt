use Rattle.transform.proofs.+turn_at.Given as goal

abbrev pub decreases-turn_at : goal.decreases-turn_at
decreases-turn_at g l = l.m
