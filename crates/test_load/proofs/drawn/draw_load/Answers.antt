-- The payload and its word, in a local array, and the soft values of the word.
use Rattle.std.proofs.Common.{sym, ap₂, ◌∙◌}
use Rattle.spec.specs.TestLoad.{draws, after_draws, noisy_word, drawn_soft, next_state}
use Rattle.slices.specs.LocalPart.{lent_long, part_is, part_long}
use Rattle.test_load.proofs.drawn.draw_load.Goals as goal

pub draw_word-state-requires : goal.draw_word-state-requires
draw_word-state-requires c = (c.requires.0, c.requires.1, lent_long 0 c.size-n.result c.size-n.ensures.1 ∙ c.size-n.ensures.0)

pub draw_soft-requires : goal.draw_soft-requires
draw_soft-requires c =
    c.requires.2 ∙ sym (part_long 0 c.size-n.result c.size-n.ensures.1 c.draw_word-state.new.word c.draw_word-state.auto.word ∙ c.size-n.ensures.0)

pub returns : goal.returns
unfolding next_state drawn_soft
returns c =
    let e = c.draw_word-state.ensures in
    let l = part_long 0 c.size-n.result c.size-n.ensures.1 c.draw_word-state.new.word c.draw_word-state.auto.word ∙ c.size-n.ensures.0 in
    let w = part_is 0 c.size-n.result c.size-n.ensures.1 c.draw_word-state.new.word c.draw_word-state.auto.word ∙ e.2 in
    (c.draw_soft.ensures.0 ∙ ap₂ after_draws l e.0, e.1, c.draw_soft.ensures.1 ∙ ap₂ noisy_word w (ap₂ draws l e.0))
