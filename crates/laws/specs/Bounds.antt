-- Every cost is at most the sum of the soft values' magnitudes.
use Rattle.std.specs.Prelude.{◌≡◌, refl, List, [], ◌∷◌, ◌++◌, Bool, ℕ, zero, suc, ◌+◌, ◌-◌, ◌^◌, ◌<◌, ◌≤◌, take, ℤ, pos, negsuc, nat_abs}
use Rattle.std.proofs.Common.{arith}
use Rattle.std.proofs.Math.ListN.{length}
use Rattle.spec.specs.Transform.{evens, odds}
use Rattle.laws.specs.Places.{by_places}
use Rattle.laws.specs.Cost.{bit_cost, word_cost, magnitude, least_cost, cost}
use Rattle.laws.specs.Windows.{win}
use Rattle.laws.specs.Nodes.{node, node_even, node_odd, node_soft, by_child}

pub bit_cost_le : (y : ℤ) (c : ℕ) → bit_cost y c ≤ nat_abs y
bit_cost_le (pos n) zero = omega arith
bit_cost_le (pos n) (suc c) = omega arith
bit_cost_le (negsuc n) zero = omega arith
bit_cost_le (negsuc n) (suc c) = omega arith

pub word_cost_le : (y : List ℤ) (c : List ℕ) → word_cost y c ≤ magnitude y
word_cost_le [] c = omega arith
word_cost_le (y ∷ ys) [] = omega arith
word_cost_le (y ∷ ys) (c ∷ cs) = omega (arith, bit_cost_le y c, word_cost_le ys cs)

pub least_cost_le : (T : List ℕ → List ℕ) (k : ℕ) (y : List ℤ) (w : List ℕ) → least_cost T k y w ≤ magnitude y
unfolding least_cost
least_cost_le T zero y w = word_cost_le y (T w)
least_cost_le T (suc k) y w = omega (arith, least_cost_le T k y (w ++ 0 ∷ []))

pub magnitude_halves : (y : List ℤ) → magnitude (evens y) + magnitude (odds y) ≡ magnitude y
magnitude_halves [] = refl
magnitude_halves (x ∷ []) = omega arith
magnitude_halves (x ∷ z ∷ r) = omega (arith, magnitude_halves r)

pub magnitude_node_soft : (d : ℕ) (y : List ℤ) (i : ℕ) → i < 2 ^ d → magnitude (node_soft d y i) ≤ magnitude y
unfolding node
magnitude_node_soft zero y i h = omega arith
magnitude_node_soft (suc d) y i h = by_child (λ i. magnitude (node_soft (suc d) y i) ≤ magnitude y) d
    (λ j l. rw (node_even evens odds d y j l) (omega (arith, magnitude_halves (node_soft d y j), magnitude_node_soft d y j l)))
    (λ j l. rw (node_odd evens odds d y j) (omega (arith, magnitude_halves (node_soft d y j), magnitude_node_soft d y j l))) i h

-- ---- what depends on the layer rule
module _ (arikan : Bool) where
  pub cost_le : (m : ℕ) (y : List ℤ) (w : List ℕ) → cost arikan m y w ≤ magnitude y
  unfolding cost
  cost_le m y w = least_cost_le (by_places arikan m) (2 ^ m - length w) y w

  pub win_le : (m : ℕ) (y : List ℤ) (v z : List ℕ) → win arikan m y v z ≤ magnitude y
  unfolding win
  win_le m y v z = cost_le m y (take (2 ^ m) (v ++ z))
