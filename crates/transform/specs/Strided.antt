-- A word that lies in a slice at a stride: at the place `at`, and at every d-th place behind it.
use Rattle.std.specs.Prelude.{◌≡◌, Bool, cond, List, [], ◌∷◌, ℕ, zero, suc, ◌+◌, ◌*◌, ◌^◌, ◌≤◌, ◌<◌, length, get_or, set}
use Rattle.spec.specs.Bits.{Bits}
use Rattle.spec.specs.Transform.{input_a, input_b, joined, transform, inverse}

-- the k bits that stand there
abbrev pub picked : ℕ → ℕ → ℕ → List ℕ → List ℕ
picked at d zero s = []
picked at d (suc k) s = get_or s at 0 ∷ picked (at + d) d k s

-- the slice with w there, and all other places as they were
abbrev pub placed : ℕ → ℕ → List ℕ → List ℕ → List ℕ
placed at d [] s = s
placed at d (x ∷ w) s = set (placed (at + d) d w s) at x

-- the slice with a word of 2 h bits split: the inputs of its halves in its place, a at its even places and b at its odd ones
abbrev pub split_at : ℕ → ℕ → ℕ → List ℕ → List ℕ
split_at at d h s = placed at (2 * d) (input_a (picked at d (2 * h) s)) (placed (at + d) (2 * d) (input_b (picked at d (2 * h) s)) s)

-- and with the word joined of which these are the inputs
abbrev pub join_at : ℕ → ℕ → ℕ → List ℕ → List ℕ
join_at at d h s = placed at d (joined (picked at (2 * d) h s) (picked (at + d) (2 * d) h s)) s

-- the slice with a word of 2 ^ m bits transformed, and with the inverse in its place
abbrev pub transform_at : ℕ → ℕ → ℕ → List ℕ → List ℕ
transform_at at d m s = placed at d (transform m (picked at d (2 ^ m) s)) s

abbrev pub inverse_at : ℕ → ℕ → ℕ → List ℕ → List ℕ
inverse_at at d m s = placed at d (inverse m (picked at d (2 ^ m) s)) s

-- the one or, where `inv` is true, the other; and what is done to a word of 2 h bits before its halves, and behind them
abbrev pub turned_at : Bool → ℕ → ℕ → ℕ → List ℕ → List ℕ
turned_at inv at d m s = cond inv (inverse_at at d m s) (transform_at at d m s)

abbrev pub to_halves_at : Bool → ℕ → ℕ → ℕ → List ℕ → List ℕ
to_halves_at inv at d h s = cond inv s (split_at at d h s)

abbrev pub from_halves_at : Bool → ℕ → ℕ → ℕ → List ℕ → List ℕ
from_halves_at inv at d h s = cond inv (join_at at d h s) s

-- d words of k bits each fill the slice; the one at `at` is meant
pub record Strided (k at d : ℕ) (s : List ℕ) : Type 0 where
  pub some : 0 < k
  pub first : at < d
  pub long : length s ≡ d * k
  pub fits : length s ≤ 1024
  pub bits : Bits s

-- what a call of the recursion takes: of a word of 2 ^ m bits, m at least 2, where it lies and half of its length
pub record Halved (m h at d : ℕ) (s : List ℕ) : Type 0 where
  pub least : 2 ≤ m
  pub half : 2 * h ≡ 2 ^ m
  pub lies : Strided (2 ^ m) at d s
