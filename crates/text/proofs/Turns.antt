-- The loop that writes bits as text, as laws of lists: one turn, and the end. Assumes nothing.
use mathlib.Core.Path.{◌≡◌, ap, ◌∙◌}
use mathlib.Core.List.{List}
use Prim.Native.Nat.{ℕ, ◌+◌, ◌≤◌, ◌<◌}
use lib.ListN.{length, drop, set, get_or, drop_of_length-le}
use Rattle.place.specs.Put.{placed, placed_none}
use Rattle.place.specs.Turns.{rest, further}
use Rattle.text.specs.BitText.{bit_byte, bit_text}

pub bit_turn : (at i x : ℕ) (s t : List ℕ) → i < length s → x ≡ bit_byte (get_or s i 0)
    → placed (at + i) (bit_text (drop i s)) t ≡ placed (at + (i + 1)) (bit_text (drop (i + 1) s)) (set t (at + i) x)
unfolding bit_text
bit_turn at i x s t h e =
    ap (λ (l : List ℕ). placed (at + i) (bit_text l) t) (rest s i 0 h) ∙ further at i (bit_byte (get_or s i 0)) (bit_text (drop (i + 1) s)) t
    ∙ rw e

-- all bits are written
pub bits_done : (at i : ℕ) (s t : List ℕ) → length s ≤ i → placed (at + i) (bit_text (drop i s)) t ≡ t
unfolding bit_text
bits_done at i s t h = rw (drop_of_length-le s h, ← placed_none (at + i) t)
