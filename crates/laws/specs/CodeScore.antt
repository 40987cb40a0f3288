-- The score of a prefix of a code, by its cost. The transform that the code uses is one rule by places, so all that costs have of it holds
-- for both.
use Rattle.std.specs.Prelude.{◌≡◌, List, [], ◌∷◌, length, ℤ}
use Rattle.std.proofs.Math.Path.{ap, ap₂}
use Rattle.std.proofs.Common.{◌∙◌, arith}
use Prim.Native.Nat.{ℕ, zero, suc, ◌+◌, ◌-◌, ◌≤◌}
use Rattle.std.proofs.Math.ListN.{length-append}
use Rattle.spec.specs.Bits.{Bits}
use Rattle.spec.specs.Code.{Code, size, code_transform}
use Rattle.spec.specs.Score.{correlation, maxℤ, largest, score}
use Rattle.laws.specs.BitLaws.{bits_snoc}
use Rattle.laws.specs.Cost.{magnitude, cost}
use Rattle.laws.specs.Places.{by_places}
use Rattle.laws.specs.CodeTransform.{by_places_lem}
use Rattle.laws.specs.ScoreCost.{score_from, score_is}

abbrev pub code_cost : Code → List ℤ → List ℕ → ℕ
code_cost c = cost c.arikan c.m

-- transforms that agree on the words of n bits give the same scores
module _ (T S : List ℕ → List ℕ) (n : ℕ) (same : (u : List ℕ) → Bits u → length u ≡ n → T u ≡ S u) where
  largest_same : (k : ℕ) (y : List ℤ) {w : List ℕ} → Bits w → length w + k ≡ n → largest T k y w ≡ largest S k y w
  unfolding largest
  largest_same zero y {w} t e = ap (correlation y) (same w t (omega arith))
  largest_same (suc k) y {w} t e =
      ap₂ maxℤ (largest_same k y (bits_snoc 0 t (omega arith)) (omega (arith, length-append w (0 ∷ []))))
      (largest_same k y (bits_snoc 1 t (omega arith)) (omega (arith, length-append w (1 ∷ []))))

pub code_score : (c : Code) (y : List ℤ) {w : List ℕ} → Bits w → length y ≡ size c → length w ≤ size c
    → score (code_transform c) (size c) y w ≡ score_from (magnitude y) (code_cost c y w)
unfolding score
code_score c y {w} t ey h =
    largest_same (code_transform c) (by_places c.arikan c.m) (size c) (λ u s e. by_places_lem c.m u s e c.arikan) (size c - length w) y t (omega arith)
    ∙ score_is c.arikan c.m y w ey h
