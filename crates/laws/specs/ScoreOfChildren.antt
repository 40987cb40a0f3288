-- The score of a prefix is the larger of its two children's: all that the prefix can become, one of them can.
use Rattle.std.specs.Prelude.{◌≡◌, List, [], ◌∷◌, ◌++◌, ℕ, suc, ◌-◌, ◌<◌, length, ℤ}
use Rattle.std.proofs.Common.{arith, length-append}
use Rattle.spec.specs.Score.{maxℤ, largest, score}

pub score_of_children : (T : List ℕ → List ℕ) (n : ℕ) (y : List ℤ) (w : List ℕ) → length w < n
    → score T n y w ≡ maxℤ (score T n y (w ++ 0 ∷ [])) (score T n y (w ++ 1 ∷ []))
unfolding score largest
score_of_children T n y w h =
    let k : ℕ = n - suc (length w) in
    let free : n - length w ≡ suc k = omega arith in
    let after_0 : n - length (w ++ 0 ∷ []) ≡ k = rw (length-append w (0 ∷ [])) (omega arith) in
    let after_1 : n - length (w ++ 1 ∷ []) ≡ k = rw (length-append w (1 ∷ [])) (omega arith) in
    rw (free, after_0, after_1)
