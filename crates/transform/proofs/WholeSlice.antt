-- The word that is a whole slice: it lies there at the stride 1. Assumes nothing.
use mathlib.Core.Path.{◌≡◌, sym, ap, ◌∙◌}
use mathlib.Core.Bool.{Bool, true, false}
use mathlib.Core.List.{List}
use Prim.Native.Nat.{ℕ, ◌*◌, ◌/◌, ◌^◌}
use native.Mathlib.Omega.{arith}
use lib.ListN.{length}
use lib.Pow.{pow_mono}
use Rattle.spec.specs.Transform.{transform, inverse, arikan_transform}
use Rattle.laws.specs.ArikanInverse.{arikan_own_inverse}
use Rattle.laws.specs.Inverse.{length_transform, length_inverse}
use Rattle.transform.specs.Strided.{Strided, Halved, picked, placed, transform_at, inverse_at, turned_at}
use Rattle.transform.specs.Word.{Word, TwoHalves, turned_by}
use Rattle.transform.proofs.Layers.{doubled}
use Rattle.transform.proofs.Strides.{picked_whole, placed_whole}

module _ {m : ℕ} {s : List ℕ} (w : Word m s) where
  whole : Strided (2 ^ m) 0 1 s
  whole = record {
    some = pow_mono {i = 0} {j = m} (omega arith);
    first = omega arith;
    long = w.long ∙ (omega arith);
    fits = omega (arith, w.long, pow_mono {i = m} {j = 10} w.most);
    bits = w.bits;
  }

  halves : 2 * (length s / 2) ≡ 2 ^ m
  halves = omega (arith, w.long, doubled m (omega (arith, w.least)))

  pub whole_twice : TwoHalves m (length s / 2) s
  whole_twice = record { word = w; half = omega (arith, halves) }

  pub whole_halved : Halved m (length s / 2) 0 1 s
  whole_halved = record { least = w.least; half = halves; lies = whole }

  whole_is : (f : List ℕ → List ℕ) {t : List ℕ} → length (f s) ≡ 2 ^ m → t ≡ placed 0 1 (f (picked 0 1 (2 ^ m) s)) s → t ≡ f s
  whole_is f l q =
      q
      ∙ ap (λ (k : ℕ). placed 0 1 (f (picked 0 1 k s)) s) (sym w.long)
      ∙ ap (λ (v : List ℕ). placed 0 1 (f v) s) (picked_whole s)
      ∙ placed_whole (f s) s (l ∙ sym w.long)

  transform_whole : {t : List ℕ} → t ≡ transform_at 0 1 m s → t ≡ transform m s
  transform_whole = whole_is (transform m) (length_transform m s w.long)

  inverse_whole : {t : List ℕ} → t ≡ inverse_at 0 1 m s → t ≡ inverse m s
  inverse_whole = whole_is (inverse m) (length_inverse m s w.long)

  -- ---- the one or the other, and Arikan's
  pub whole_turned : (b : Bool) {t : List ℕ} → t ≡ turned_at b 0 1 m s → t ≡ turned_by b false m s
  whole_turned true = inverse_whole
  whole_turned false = transform_whole

  pub whole_polarised : (b : Bool) {t : List ℕ} → t ≡ arikan_transform m s → t ≡ turned_by b true m s
  whole_polarised true q = q ∙ arikan_own_inverse m w.bits w.long
  whole_polarised false q = q
