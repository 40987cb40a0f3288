-- −2,048 is full scale: a call with it is the call with −2,047 in its place.
use Rattle.std.specs.Prelude.{◌≡◌, ℕ, ℤ}
use Rattle.std.proofs.Common.{sym, ◌∙◌}
use mathlib.Core.List.{List, ◌∷◌, ◌++◌, map-append}
use Rattle.spec.specs.Code.{Code}
use Rattle.spec.specs.Score.{saturated, taken}
use Rattle.spec.specs.Outcome.{Lent, decode_outcome}
use Rattle.laws.specs.FullScale.{lowest, next_lowest, taken_alike}

-- lists with the one and with the other at a place are taken alike
alike_at : (ys zs : List ℤ) → taken (ys ++ lowest ∷ zs) ≡ taken (ys ++ next_lowest ∷ zs)
alike_at ys zs = map-append saturated ys (lowest ∷ zs) ∙ sym (map-append saturated ys (next_lowest ∷ zs))

-- A call with −2,048 at some place has the outcome of the call with −2,047 there: the answer and all that was lent.
pub full_scale : (c : Code) (l p : ℕ) (ys zs : List ℤ) (x : Lent)
    → decode_outcome c l p (ys ++ lowest ∷ zs) x ≡ decode_outcome c l p (ys ++ next_lowest ∷ zs) x
full_scale c l p ys zs x = taken_alike (ys ++ lowest ∷ zs) (ys ++ next_lowest ∷ zs) (alike_at ys zs) c l p x
