-- The loop over scores that writes them, as laws of lists: one turn, and the end. Assumes nothing.
use Rattle.std.specs.Prelude.{◌≡◌, List, [], ◌++◌, ℕ, ◌+◌, ◌≤◌, ◌<◌, length, drop, get_or, ℤ, pos}
use Rattle.std.proofs.Common.{ap, add-one, drop_of_length-le, drop-cons}
use Rattle.spec.specs.RecordOf.{low_first, thirty_two_bits}
use Rattle.spec.specs.ResultWriter.{score_bytes}

-- the bytes of those that are left
pub score_turn : (i : ℕ) (ys : List ℤ) → i < length ys
    → score_bytes (drop i ys) ≡ low_first 4 (thirty_two_bits (get_or ys i (pos 0))) ++ score_bytes (drop (i + 1) ys)
unfolding score_bytes
score_turn i ys h = rw (add-one i) (ap score_bytes (drop-cons ys i (pos 0) h))

pub scores_done : (i : ℕ) (ys : List ℤ) → length ys ≤ i → score_bytes (drop i ys) ≡ []
unfolding score_bytes
scores_done i ys h = ap score_bytes (drop_of_length-le ys h)
