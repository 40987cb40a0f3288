-- One draw more, at the end, as a loop takes it. Assumes nothing.
use Rattle.std.proofs.Common.{◌≡◌, List, [], ◌∷◌, ◌++◌, ℕ, ◌+◌, ◌%◌, ◌<◌, length, take, get_or, add-one}
use Rattle.spec.specs.TestLoad.{draw, draws, after_draws, drawn_bits, noisy, noisy_word}
use Rattle.laws.specs.Draws.{after_more, bits_more, noise_more}

pub after_next : (i s : ℕ) → after_draws (i + 1) s ≡ draw (after_draws i s)
after_next i s = rw add-one (after_more i s)

pub bits_next : (i s : ℕ) → drawn_bits (i + 1) s ≡ drawn_bits i s ++ (draw (after_draws i s) % 2 ∷ [])
bits_next i s = rw add-one (bits_more i s)

pub noise_next : (w : List ℕ) (i s : ℕ) → i < length w
    → noisy_word (take (i + 1) w) (draws (i + 1) s) ≡ noisy_word (take i w) (draws i s) ++ (noisy (get_or w i 0) (draw (after_draws i s)) ∷ [])
noise_next w i s h = rw add-one (noise_more w i s h)
