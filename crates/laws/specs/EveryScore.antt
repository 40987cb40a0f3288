-- Every score of a block is a correlation of its soft values with some word, and so is the ceiling: what all such correlations have,
-- these have. No correlation is larger than the sum of the magnitudes.
use Rattle.std.specs.Prelude.{◌≡◌, refl, Bool, cond, ℕ, zero, suc, ◌+◌, ◌-◌, ◌≤◌, ltb, ℤ, pos, negsuc, nat_abs, ◌+ℤ◌}
use Rattle.std.proofs.Common.{sym, subst, arith, ltb-true}
use Rattle.std.proofs.Math.Bool.{true, false}
use mathlib.Core.List.{List, [], ◌∷◌, ◌++◌, map}
use Rattle.std.proofs.Math.IntN.{sub_ℕ}
use Rattle.std.specs.Int.Signed.{le_z}
use Rattle.spec.specs.Code.{Code}
use Rattle.spec.specs.Score.{signed, correlation, maxℤ, score}
use Rattle.spec.specs.Decoder.{Row, children, head_of, largest_of, dropped_by, ceiling_by, score_of, live, row_of, rows, ceiling}
use Rattle.spec.specs.ScoreIsLargest.{a_completion_attains}
use Rattle.laws.specs.Cost.{magnitude}
use Rattle.laws.specs.ListCost.{All, none, more}

-- ---- the size of a correlation
size_difference : (a b : ℕ) → nat_abs (sub_ℕ a b) ≤ a + b
size_difference a b = go (ltb a b) refl
  where
    go : (t : Bool) → ltb a b ≡ t → nat_abs (cond t (negsuc (b - suc a)) (pos (a - b))) ≤ a + b
    go true e = omega (arith, ltb-true a b e)
    go false e = omega arith

size_sum : (x z : ℤ) → nat_abs (x +ℤ z) ≤ nat_abs x + nat_abs z
size_sum (pos a) (pos b) = omega arith
size_sum (pos a) (negsuc b) = size_difference a (suc b)
size_sum (negsuc a) (pos b) = omega (arith, size_difference b (suc a))
size_sum (negsuc a) (negsuc b) = omega arith

size_signed : (y : ℤ) (c : ℕ) → nat_abs (signed y c) ≡ nat_abs y
size_signed y zero = refl
size_signed (pos zero) (suc c) = refl
size_signed (pos (suc n)) (suc c) = refl
size_signed (negsuc n) (suc c) = refl

pub size_correlation : (y : List ℤ) (c : List ℕ) → nat_abs (correlation y c) ≤ magnitude y
size_correlation [] c = omega arith
size_correlation (y ∷ ys) [] = omega arith
size_correlation (y ∷ ys) (c ∷ cs) = omega (arith, size_sum (signed y c) (correlation ys cs), size_signed y c, size_correlation ys cs)

-- ---- what every correlation has
module _ (P : ℤ → Type 0) (y : List ℤ) (every : (w : List ℕ) → P (correlation y w)) (T : List ℕ → List ℕ) where
  pub score_has : (n : ℕ) (w : List ℕ) → P (score T n y w)
  score_has n w = let a = a_completion_attains T y n w in subst P (sym a.3) (every (T (w ++ a.0)))

  module _ (c : Code) (l p : ℕ) where
    abbrev s : List ℕ → ℤ
    s = score_of T c y l

    pub rows_have : All (λ (r : Row). P r.score) (rows T c y l p)
    unfolding rows
    rows_have = each (live T c y l p)
      where
        each : (ws : List (List ℕ)) → All (λ (r : Row). P r.score) (map (row_of T c y l) ws)
        each [] = none
        each (w ∷ ws) = more (score_has _ w) (each ws)

    pub ceiling_has : P (ceiling T c y l p)
    unfolding ceiling_by
    ceiling_has = among (dropped_by s (children c) l p)
      where
        larger : (a b : ℤ) → P a → P b → P (maxℤ a b)
        larger a b u v = go (le_z a b)
          where
            go : (t : Bool) → P (cond t b a)
            go true = v
            go false = u

        top : List ℕ
        top = head_of (live T c y l p)

        among : (ws : List (List ℕ)) → P (largest_of (s top) (map s ws))
        among [] = score_has _ top
        among (w ∷ ws) = larger (s w) (largest_of (s top) (map s ws)) (score_has _ w) (among ws)
