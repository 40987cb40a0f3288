-- The encoder is additive, and so is each part of it: the bits at frozen positions, the input of a payload, both transforms.
use Rattle.std.specs.Prelude.{◌≡◌, Bool, true, false, cond, ℕ, zero, suc, length, get_or, eqb}
use Rattle.std.proofs.Math.Path.{refl, ap}
use Rattle.std.proofs.Common.{sym, ap₂, ◌∙◌, arith, length-append}
use mathlib.Core.List.{List, [], ◌∷◌, ◌++◌}
use Rattle.std.proofs.Math.Nat.{suc_inj}
use Rattle.spec.specs.Bits.{◌⊕◌, Bits, nil, cons}
use Rattle.spec.specs.Transform.{input_a, input_b, interleave, evens, transform, added, transform_by}
use Rattle.spec.specs.Code.{Code, frozen, Pair, pairs_in, sum_at, frozen_bit, filled, input_for, encoded}
use Rattle.laws.specs.BitLaws.{bits_at, bits_snoc}
use Rattle.laws.specs.Layer.{half}
use Rattle.laws.specs.ListCost.{sum_lt, frozen_lt}
use Rattle.laws.specs.Inverse.{length_input_a, length_input_b, bits_input_a, bits_input_b, bits_evens}
use Rattle.laws.specs.ArikanPlaces.{⊕-swap, length_added, added_append, evens_added, added_swap_any}
use Rattle.laws.specs.ArikanInverse.{arikan_added_alike}
use Rattle.laws.specs.Inputs.{length_input, bits_input}

-- ---- the input of a payload
get_d_added : (v w : List ℕ) (i : ℕ) → length v ≡ length w → get_or (added v w) i 0 ≡ get_or v i 0 ⊕ get_or w i 0
get_d_added [] [] i e = refl
get_d_added [] (y ∷ w) i e = absurd (omega (arith, e))
get_d_added (x ∷ v) [] i e = absurd (omega (arith, e))
get_d_added (x ∷ v) (y ∷ w) zero e = refl
get_d_added (x ∷ v) (y ∷ w) (suc i) e = get_d_added v w i (suc_inj e)

module _ {v w : List ℕ} (s : Bits v) (t : Bits w) (e : length v ≡ length w) where
  sum_added : (ps : List Pair) (i : ℕ) → sum_at ps i (added v w) ≡ sum_at ps i v ⊕ sum_at ps i w
  sum_added [] i = refl
  sum_added (p ∷ ps) i = go (eqb p.f i) (sum_added ps i)
    where
      go : (b : Bool) → sum_at ps i (added v w) ≡ sum_at ps i v ⊕ sum_at ps i w
          → cond b (get_or (added v w) p.e 0 ⊕ sum_at ps i (added v w)) (sum_at ps i (added v w))
          ≡ cond b (get_or v p.e 0 ⊕ sum_at ps i v) (sum_at ps i v) ⊕ cond b (get_or w p.e 0 ⊕ sum_at ps i w) (sum_at ps i w)
      go true ih =
          ap₂ ◌⊕◌ (get_d_added v w p.e e) ih
          ∙ ⊕-swap (get_or v p.e 0) (get_or w p.e 0) (sum_at ps i v) (sum_at ps i w) (bits_at s p.e) (bits_at t p.e) (sum_lt ps i s) (sum_lt ps i t)
      go false ih = ih

  -- the bit of the sum of two prefixes at a frozen position
  frozen_added : (c : Code) → frozen_bit c (length (added v w)) (added v w) ≡ frozen_bit c (length v) v ⊕ frozen_bit c (length w) w
  unfolding frozen_bit
  frozen_added c =
      let ps : List Pair = pairs_in c.pairs in
      ap (λ (i : ℕ). sum_at ps i (added v w)) (length_added v w e) ∙ sum_added ps (length v) ∙ ap (λ (i : ℕ). sum_at ps (length v) v ⊕ sum_at ps i w) e

-- the sum of two prefixes, gone on by the sum of two bits
snoc_added : (v w : List ℕ) (x y : ℕ) → length v ≡ length w → added v w ++ (x ⊕ y) ∷ [] ≡ added (v ++ x ∷ []) (w ++ y ∷ [])
snoc_added v w x y e = sym (added_append v (x ∷ []) w (y ∷ []) e)

snoc_long : (v w : List ℕ) (x y : ℕ) → length v ≡ length w → length (v ++ x ∷ []) ≡ length (w ++ y ∷ [])
snoc_long v w x y e = omega (arith, length-append v (x ∷ []), length-append w (y ∷ []))

module _ (c : Code) where
  filled_added : (fs : List ℕ) {p q v w : List ℕ} → Bits p → Bits q → Bits v → Bits w → length p ≡ length q → length v ≡ length w
      → filled c fs (added p q) (added v w) ≡ added (filled c fs p v) (filled c fs q w)
  filled_added [] a b s t e f = refl
  filled_added (zero ∷ fs) {v = v} {w = w} nil nil s t e f =
      ap (filled c fs []) (snoc_added v w 0 0 f) ∙ filled_added fs nil nil (bits_snoc 0 s (omega arith)) (bits_snoc 0 t (omega arith)) e (snoc_long v w 0 0 f)
  filled_added (zero ∷ fs) nil (cons k b) s t e f = absurd (omega (arith, e))
  filled_added (zero ∷ fs) (cons h a) nil s t e f = absurd (omega (arith, e))
  filled_added (zero ∷ fs) {v = v} {w = w} (cons {x = x} {w = p} h a) (cons {x = y} {w = q} k b) s t e f =
      ap (filled c fs (added p q)) (snoc_added v w x y f) ∙ filled_added fs a b (bits_snoc x s h) (bits_snoc y t k) (suc_inj e) (snoc_long v w x y f)
  filled_added (suc g ∷ fs) {p = p} {q = q} {v = v} {w = w} a b s t e f =
      let x : ℕ = frozen_bit c (length v) v in
      let y : ℕ = frozen_bit c (length w) w in
      ap (λ (z : ℕ). filled c fs (added p q) (added v w ++ z ∷ [])) (frozen_added s t f c)
      ∙ ap (filled c fs (added p q)) (snoc_added v w x y f)
      ∙ filled_added fs a b (bits_snoc x s (frozen_lt c (length v) s)) (bits_snoc y t (frozen_lt c (length w) t)) e (snoc_long v w x y f)

  input_added : {p q : List ℕ} → Bits p → Bits q → length p ≡ length q → input_for c (added p q) ≡ added (input_for c p) (input_for c q)
  unfolding input_for
  input_added a b e = filled_added (frozen c) a b nil nil e refl

-- ---- the convolutional transform
input_b_added : {u v : List ℕ} → Bits u → Bits v → length u ≡ length v → input_b (added u v) ≡ added (input_b u) (input_b v)
input_b_added nil t e = refl
input_b_added (cons a s) nil e = absurd (omega (arith, e))
input_b_added (cons a nil) (cons b nil) e = refl
input_b_added (cons a nil) (cons b (cons c t)) e = absurd (omega (arith, e))
input_b_added (cons a (cons b s)) (cons c nil) e = absurd (omega (arith, e))
input_b_added (cons a (cons b nil)) (cons c (cons d nil)) e = refl
input_b_added (cons a (cons b nil)) (cons c (cons d (cons g t))) e = absurd (omega (arith, e))
input_b_added (cons a (cons b (cons f s))) (cons c (cons d nil)) e = absurd (omega (arith, e))
input_b_added (cons a (cons {x = y} b (cons {x = z} f s))) (cons c (cons {x = y'} d (cons {x = z'} g t))) e =
    ap₂ (λ (k : ℕ) (l : List ℕ). k ∷ l) (⊕-swap y y' z z' b d f g) (input_b_added (cons f s) (cons g t) (suc_inj (suc_inj e)))

-- a_i = u_2i + b_i
input_a_sum : (u : List ℕ) → input_a u ≡ added (evens u) (input_b u)
input_a_sum [] = refl
input_a_sum (x ∷ []) = refl
input_a_sum (x ∷ y ∷ []) = refl
input_a_sum (x ∷ y ∷ z ∷ r) = ap (λ (l : List ℕ). (x ⊕ (y ⊕ z)) ∷ l) (input_a_sum (z ∷ r))

input_a_added : {u v : List ℕ} → Bits u → Bits v → length u ≡ length v → input_a (added u v) ≡ added (input_a u) (input_a v)
input_a_added {u} {v} s t e =
    input_a_sum (added u v)
    ∙ ap₂ added (evens_added u v e) (input_b_added s t e)
    ∙ added_swap_any (bits_evens s) (bits_evens t) (bits_input_b s) (bits_input_b t)
    ∙ sym (ap₂ added (input_a_sum u) (input_a_sum v))

interleave_added : (p p' q q' : List ℕ) → interleave (added p p') (added q q') ≡ added (interleave p q) (interleave p' q')
interleave_added [] p' q q' = refl
interleave_added (a ∷ p) [] [] q' = refl
interleave_added (a ∷ p) [] (c ∷ q) q' = refl
interleave_added (a ∷ p) (b ∷ p') [] q' = refl
interleave_added (a ∷ p) (b ∷ p') (c ∷ q) [] = refl
interleave_added (a ∷ p) (b ∷ p') (c ∷ q) (d ∷ q') = ap (λ (l : List ℕ). (a ⊕ b) ∷ (c ⊕ d) ∷ l) (interleave_added p p' q q')

transform_added : (m : ℕ) {u v : List ℕ} → Bits u → Bits v → length u ≡ length v → transform m (added u v) ≡ added (transform m u) (transform m v)
unfolding transform
transform_added zero s t e = refl
transform_added (suc m) {u} {v} s t e =
    ap₂ interleave
    (ap (transform m) (input_a_added s t e) ∙ transform_added m (bits_input_a s) (bits_input_a t) (length_input_a u ∙ ap half e ∙ sym (length_input_a v)))
    (ap (transform m) (input_b_added s t e) ∙ transform_added m (bits_input_b s) (bits_input_b t) (length_input_b u ∙ ap half e ∙ sym (length_input_b v)))
    ∙ interleave_added (transform m (input_a u)) (transform m (input_a v)) (transform m (input_b u)) (transform m (input_b v))

-- ---- both transforms, and the encoder
transformed_added : (arikan : Bool) (m : ℕ) {u v : List ℕ} → Bits u → Bits v → length u ≡ length v
    → transform_by arikan m (added u v) ≡ added (transform_by arikan m u) (transform_by arikan m v)
transformed_added true m s t e = arikan_added_alike m s t e
transformed_added false m s t e = transform_added m s t e

-- The code word of the sum of two payloads of one length is the sum of their code words.
pub encoded_added : (c : Code) {p q : List ℕ} → Bits p → Bits q → length p ≡ length q → encoded c (added p q) ≡ added (encoded c p) (encoded c q)
unfolding encoded
encoded_added c s t e =
    ap (transform_by c.arikan c.m) (input_added c s t e)
    ∙ transformed_added c.arikan c.m (bits_input c s) (bits_input c t) (length_input c s ∙ sym (length_input c t))
