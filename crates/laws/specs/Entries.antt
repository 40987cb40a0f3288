-- One more bit of a prefix, and where the entries of the halves of a word stand in it.
use Rattle.std.specs.Prelude.{◌≡◌, refl, List, [], ◌∷◌, ◌++◌, Bool, get_or, ℤ}
use Prim.Native.Nat.{ℕ, zero, suc, ◌-◌, ◌^◌, ◌<◌}
use native.Mathlib.Omega.{arith}
use Rattle.std.proofs.Math.ListN.{length}
use Rattle.std.proofs.Common.{length-append}
use Rattle.spec.specs.Transform.{evens, odds}
use Rattle.laws.specs.Cost.{least_cost, cost}
pub use Rattle.laws.specs.BitLaws.{⊕-mod, ⊕-xor}
use Rattle.laws.specs.Layer.{least, double}

-- ---- entry i of a half
module _ {ℓ} {A : Type ℓ} where
  pub get_d_evens : (y : List A) (i : ℕ) (d : A) → get_or (evens y) i d ≡ get_or y (double i) d
  get_d_evens [] i d = refl
  get_d_evens (x ∷ []) zero d = refl
  get_d_evens (x ∷ []) (suc i) d = refl
  get_d_evens (x ∷ z ∷ r) zero d = refl
  get_d_evens (x ∷ z ∷ r) (suc i) d = get_d_evens r i d

  pub get_d_odds : (y : List A) (i : ℕ) (d : A) → get_or (odds y) i d ≡ get_or y (suc (double i)) d
  get_d_odds [] i d = refl
  get_d_odds (x ∷ []) i d = refl
  get_d_odds (x ∷ z ∷ r) zero d = refl
  get_d_odds (x ∷ z ∷ r) (suc i) d = get_d_odds r i d

-- ---- what depends on the layer rule
module _ (arikan : Bool) where
  -- ---- one more bit
  pub cost_step : (m : ℕ) (y : List ℤ) (w : List ℕ) → length w < 2 ^ m → cost arikan m y w ≡ least (λ b. cost arikan m y (w ++ b ∷ []))
  unfolding cost least_cost
  cost_step m y w h =
      let k : ℕ = 2 ^ m - suc (length w) in
      let e : 2 ^ m - length w ≡ suc k = omega arith in
      let e' : (b : ℕ) → 2 ^ m - length (w ++ b ∷ []) ≡ k = λ b. rw (length-append w (b ∷ [])) (omega arith) in
      rw (e, e' 0, e' 1)
