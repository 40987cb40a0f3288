-- A layer in place: a word of 2 h bits at a stride, and its two halves of h bits at twice the stride. Assumes nothing.
use mathlib.Core.Path.{◌≡◌, refl, sym, ap, ap₂, ◌∙◌}
use mathlib.Core.Bool.{Bool, true, false}
use mathlib.Core.List.{List, [], ◌∷◌}
use Prim.Native.Nat.{ℕ, suc, ◌+◌, ◌-◌, ◌*◌, ◌^◌, ◌<◌}
use native.Mathlib.Omega.{arith}
use lib.ListN.{length}
use Rattle.std.specs.Prelude.{cond}
use Rattle.spec.specs.Bits.{Bits}
use Rattle.spec.specs.Transform.{input_a, input_b, interleave, evens, odds, joined, transform, inverse}
use Rattle.laws.specs.Inverse.{bits_input_a, bits_input_b, length_transform, bits_transform, bits_inverse, length_input_a_pow, length_input_b_pow, length_inverse}
use Rattle.transform.specs.Strided.{Strided, picked, placed, split_at, join_at, transform_at, inverse_at, turned_at, to_halves_at, from_halves_at}
use Rattle.transform.proofs.Strides.{length_picked, length_placed, bits_picked, bits_placed, placed_again, picked_placed, picked_second, picked_first, crossed, evens_picked, odds_picked, placed_halves}

pub doubled : (m : ℕ) → 0 < m → 2 * 2 ^ (m - 1) ≡ 2 ^ m
doubled m h =
    let up : suc (m - 1) ≡ m = omega arith in
    (omega arith) ∙ ap (λ (k : ℕ). 2 ^ k) up

pub stride_some : {k at d : ℕ} {s : List ℕ} → Strided k at d s → 0 < d
stride_some g = omega (arith, g.first)

-- what stays where bits have been placed
after : {k at d : ℕ} {w s t : List ℕ} (a e : ℕ) → t ≡ placed a e w s → Bits w → Strided k at d s → Strided k at d t
after {w = w} {s} {t} a e q b g =
    let l : length t ≡ length s = ap length q ∙ length_placed a e w s in
    record { some = g.some; first = g.first; long = l ∙ g.long; fits = rw l g.fits; bits = rw q (bits_placed a e b g.bits) }

module _ {k at d : ℕ} {s t : List ℕ} (a e m : ℕ) where
  after_transform : t ≡ transform_at a e m s → Strided k at d s → Strided k at d t
  after_transform q g = after a e q (bits_transform m (bits_picked a e (2 ^ m) g.bits)) g

  after_inverse : t ≡ inverse_at a e m s → Strided k at d s → Strided k at d t
  after_inverse q g = after a e q (bits_inverse m (bits_picked a e (2 ^ m) g.bits)) g

  pub turned_kept : (b : Bool) → t ≡ turned_at b a e m s → Strided k at d s → Strided k at d t
  turned_kept true = after_inverse
  turned_kept false = after_transform

same_length : (p q : List ℕ) → length (interleave p q) ≡ length (joined p q)
same_length [] q = refl
same_length (x ∷ p) [] = refl
same_length (x ∷ p) (y ∷ q) = ap (λ (k : ℕ). suc (suc k)) (same_length p q)

module _ (h : ℕ) {at d : ℕ} {s : List ℕ} (g : Strided (2 * h) at d s) where
  pub twice : length s ≡ 2 * d * h
  twice = g.long ∙ (omega arith)

  pub half_first : Strided h at (2 * d) s
  half_first = record { some = omega (arith, g.some); first = omega (arith, g.first); long = twice; fits = g.fits; bits = g.bits }

  pub half_second : Strided h (at + d) (2 * d) s
  half_second = record { some = omega (arith, g.some); first = omega (arith, g.first); long = twice; fits = g.fits; bits = g.bits }

  own : (a : ℕ) (w t : List ℕ) → a < 2 * d → length w ≡ h → length t ≡ length s → picked a (2 * d) h (placed a (2 * d) w t) ≡ w
  own a w t p e l =
      let in_slice : a + 2 * d * length w < length t + 2 * d = rw (e, l, twice) (omega arith) in
      rw e at (picked_placed a (2 * d) w t (omega (arith, stride_some g)) in_slice)

  own_first : (w t : List ℕ) → length w ≡ h → length t ≡ length s → picked at (2 * d) h (placed at (2 * d) w t) ≡ w
  own_first w t = own at w t (omega (arith, g.first))

  own_second : (w t : List ℕ) → length w ≡ h → length t ≡ length s → picked (at + d) (2 * d) h (placed (at + d) (2 * d) w t) ≡ w
  own_second w t = own (at + d) w t (omega (arith, g.first))

  between : at < at + d
  between = omega (arith, stride_some g)

  within : at + d < at + 2 * d
  within = omega (arith, stride_some g)

  -- a and b have been placed as halves, and then f is done to the one and to the other
  layered : (f : List ℕ → List ℕ) (a b : List ℕ) → length a ≡ h → length b ≡ h → length (f a) ≡ h → length (f b) ≡ h → {s₁ s₂ s₃ : List ℕ}
      → s₁ ≡ placed at (2 * d) a (placed (at + d) (2 * d) b s)
      → s₂ ≡ placed at (2 * d) (f (picked at (2 * d) h s₁)) s₁
      → s₃ ≡ placed (at + d) (2 * d) (f (picked (at + d) (2 * d) h s₂)) s₂
      → s₃ ≡ placed at d (interleave (f a) (f b)) s
  layered f a b la lb fa fb {s₁} {s₂} {s₃} e₁ e₂ e₃ =
      let t : List ℕ = placed (at + d) (2 * d) b s in
      let lt : length t ≡ length s = length_placed (at + d) (2 * d) b s in
      let q₁ : picked at (2 * d) h s₁ ≡ a = ap (picked at (2 * d) h) e₁ ∙ own_first a t la lt in
      let r₂ : s₂ ≡ placed at (2 * d) (f a) t
      = e₂ ∙ ap₂ (λ (w r : List ℕ). placed at (2 * d) (f w) r) q₁ e₁ ∙ placed_again at (2 * d) a (f a) t (omega (arith, stride_some g)) (la ∙ sym fa) in
      let q₂ : picked (at + d) (2 * d) h s₂ ≡ b
      = ap (picked (at + d) (2 * d) h) r₂ ∙ picked_second (2 * d) at (at + d) h (f a) t between within ∙ own_second b s lb refl in
      e₃
      ∙ ap₂ (λ (w r : List ℕ). placed (at + d) (2 * d) (f w) r) q₂ (r₂ ∙ crossed (2 * d) at (at + d) (f a) b s between within)
      ∙ placed_again (at + d) (2 * d) b (f b) (placed at (2 * d) (f a) s) (omega (arith, stride_some g)) (lb ∙ sym fb)
      ∙ sym (crossed (2 * d) at (at + d) (f a) (f b) s between within)
      ∙ sym (placed_halves at d (f a) (f b) s (stride_some g) (fa ∙ sym fb))

  -- f is done to the one half and to the other, and then they are joined
  unlayered : (f : List ℕ → List ℕ) (a b : List ℕ) → picked at (2 * d) h s ≡ a → picked (at + d) (2 * d) h s ≡ b → length (f a) ≡ h → length (f b) ≡ h
      → {s₁ s₂ s₃ : List ℕ}
      → s₁ ≡ placed at (2 * d) (f (picked at (2 * d) h s)) s
      → s₂ ≡ placed (at + d) (2 * d) (f (picked (at + d) (2 * d) h s₁)) s₁
      → s₃ ≡ join_at at d h s₂
      → s₃ ≡ placed at d (joined (f a) (f b)) s
  unlayered f a b pa pb fa fb {s₁} {s₂} {s₃} e₁ e₂ e₃ =
      let t : List ℕ = placed at (2 * d) (f a) s in
      let lt : length t ≡ length s = length_placed at (2 * d) (f a) s in
      let r₁ : s₁ ≡ t = e₁ ∙ ap (λ (w : List ℕ). placed at (2 * d) (f w) s) pa in
      let q₁ : picked (at + d) (2 * d) h s₁ ≡ b
      = ap (picked (at + d) (2 * d) h) r₁ ∙ picked_second (2 * d) at (at + d) h (f a) s between within ∙ pb in
      let r₂ : s₂ ≡ placed (at + d) (2 * d) (f b) t = e₂ ∙ ap₂ (λ (w r : List ℕ). placed (at + d) (2 * d) (f w) r) q₁ r₁ in
      let qa : picked at (2 * d) h s₂ ≡ f a
      = ap (picked at (2 * d) h) r₂ ∙ picked_first (2 * d) at (at + d) h (f b) t between within ∙ own_first (f a) s fa refl in
      let qb : picked (at + d) (2 * d) h s₂ ≡ f b = ap (picked (at + d) (2 * d) h) r₂ ∙ own_second (f b) t fb lt in
      let r : s₂ ≡ placed at d (interleave (f a) (f b)) s
      = r₂ ∙ sym (crossed (2 * d) at (at + d) (f a) (f b) s between within) ∙ sym (placed_halves at d (f a) (f b) s (stride_some g) (fa ∙ sym fb)) in
      e₃
      ∙ ap₂ (placed at d) (ap₂ joined qa qb) r
      ∙ placed_again at d (interleave (f a) (f b)) (joined (f a) (f b)) s (stride_some g) (same_length (f a) (f b))

-- ---- a layer of the transform and one of its inverse, over halves of 2 ^ m bits
module _ (m : ℕ) {at d : ℕ} {s : List ℕ} (g : Strided (2 * 2 ^ m) at d s) where
  long_word : length (picked at d (2 * 2 ^ m) s) ≡ 2 ^ suc m
  long_word = length_picked at d (2 * 2 ^ m) s ∙ (omega arith)

  bits_word : Bits (picked at d (2 * 2 ^ m) s)
  bits_word = bits_picked at d (2 * 2 ^ m) g.bits

  -- the slice once the inputs of the halves are placed, and once the first half is transformed
  after_split : {s₁ : List ℕ} → s₁ ≡ split_at at d (2 ^ m) s → Strided (2 * 2 ^ m) at d s₁
  after_split q = after at (2 * d) q (bits_input_a bits_word) (after (at + d) (2 * d) refl (bits_input_b bits_word) g)

  transform_layer : {s₁ s₂ s₃ : List ℕ}
      → s₁ ≡ split_at at d (2 ^ m) s
      → s₂ ≡ transform_at at (2 * d) m s₁
      → s₃ ≡ transform_at (at + d) (2 * d) m s₂
      → s₃ ≡ placed at d (transform (suc m) (picked at d (2 * 2 ^ m) s)) s
  unfolding transform
  transform_layer =
      let u : List ℕ = picked at d (2 * 2 ^ m) s in
      let la : length (input_a u) ≡ 2 ^ m = length_input_a_pow m u long_word in
      let lb : length (input_b u) ≡ 2 ^ m = length_input_b_pow m u long_word in
      layered (2 ^ m) g (transform m) (input_a u) (input_b u) la lb (length_transform m (input_a u) la) (length_transform m (input_b u) lb)

  inverse_layer : {s₁ s₂ s₃ : List ℕ}
      → s₁ ≡ inverse_at at (2 * d) m s
      → s₂ ≡ inverse_at (at + d) (2 * d) m s₁
      → s₃ ≡ join_at at d (2 ^ m) s₂
      → s₃ ≡ placed at d (inverse (suc m) (picked at d (2 * 2 ^ m) s)) s
  unfolding inverse
  inverse_layer =
      let u : List ℕ = picked at d (2 * 2 ^ m) s in
      let even : picked at (2 * d) (2 ^ m) s ≡ evens u = sym (evens_picked at d (2 ^ m) s) in
      let odd : picked (at + d) (2 * d) (2 ^ m) s ≡ odds u = sym (odds_picked at d (2 ^ m) s) in
      let la : length (evens u) ≡ 2 ^ m = ap length (sym even) ∙ length_picked at (2 * d) (2 ^ m) s in
      let lb : length (odds u) ≡ 2 ^ m = ap length (sym odd) ∙ length_picked (at + d) (2 * d) (2 ^ m) s in
      unlayered (2 ^ m) g (inverse m) (evens u) (odds u) even odd (length_inverse m (evens u) la) (length_inverse m (odds u) lb)

  -- ---- the one or the other
  pub before_kept : (b : Bool) {s₁ : List ℕ} → s₁ ≡ to_halves_at b at d (2 ^ m) s → Strided (2 * 2 ^ m) at d s₁
  before_kept true q = rw q g
  before_kept false q = after_split q

  pub turned_layer : (b : Bool) {s₁ s₂ s₃ s₄ : List ℕ}
      → s₁ ≡ to_halves_at b at d (2 ^ m) s
      → s₂ ≡ turned_at b at (2 * d) m s₁
      → s₃ ≡ turned_at b (at + d) (2 * d) m s₂
      → s₄ ≡ from_halves_at b at d (2 ^ m) s₃
      → s₄ ≡ cond b (placed at d (inverse (suc m) (picked at d (2 * 2 ^ m) s)) s) (placed at d (transform (suc m) (picked at d (2 * 2 ^ m) s)) s)
  turned_layer true q₁ q₂ q₃ q₄ = inverse_layer (rw q₁ at q₂) q₃ q₄
  turned_layer false q₁ q₂ q₃ q₄ = q₄ ∙ transform_layer q₁ q₂ q₃
