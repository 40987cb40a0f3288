-- Correlation and score: 01, "Scores and lists". T is the transform, n the length of its words.
use Rattle.std.specs.Prelude.{cond, List, [], ◌∷◌, ◌++◌, map, ℕ, zero, suc, ◌-◌, length, eqb, ℤ, pos, negsuc, neg_ℤ, ◌+ℤ◌}
use Rattle.std.specs.Int.Signed.{le_z}

-- −2,048 is full scale and taken as −2,047 before any correlation: 02, wish 1. negsuc n is −(n + 1).
abbrev pub saturated : ℤ → ℤ
saturated (pos n) = pos n
saturated (negsuc n) = cond (eqb n 2047) (negsuc 2046) (negsuc n)

-- soft values as they are taken
abbrev pub taken : List ℤ → List ℤ
taken = map saturated

-- a soft value, negated where the code bit is 1
abbrev pub signed : ℤ → ℕ → ℤ
signed y zero = y
signed y (suc c) = neg_ℤ y

-- the correlation of a code word
abbrev pub correlation : List ℤ → List ℕ → ℤ
correlation [] c = pos 0
correlation (y ∷ ys) [] = pos 0
correlation (y ∷ ys) (c ∷ cs) = signed y c +ℤ correlation ys cs

abbrev pub maxℤ : ℤ → ℤ → ℤ
maxℤ a b = cond (le_z a b) b a

module _ (T : List ℕ → List ℕ) where
  -- the largest correlation over the 2 ^ k words that go on from w by k bits
  unfoldable pub largest : ℕ → List ℤ → List ℕ → ℤ
  largest zero y w = correlation y (T w)
  largest (suc k) y w = maxℤ (largest k y (w ++ 0 ∷ [])) (largest k y (w ++ 1 ∷ []))

  -- the score of a prefix: over all inputs of n bits that begin with it
  unfoldable pub score : ℕ → List ℤ → List ℕ → ℤ
  score n y w = largest (n - length w) y w
