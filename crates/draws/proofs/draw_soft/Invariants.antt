-- The values passed are drawn.
use Rattle.std.proofs.Common.{◌≡◌, take}
use Rattle.spec.specs.TestLoad.{draws, after_draws, noisy_word}
use Rattle.draws.proofs.draw_soft.Given as goal

abbrev pub invariant-loop-i : goal.invariant-loop-i
invariant-loop-i l = record {
  state : l.state ≡ after_draws l.i l.s;
  drawn : take l.i l.soft ≡ noisy_word (take l.i l.word) (draws l.i l.s);
}
