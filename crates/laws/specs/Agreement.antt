-- Soft values against the bits of a word. A word that no soft value speaks against costs nothing and correlates at the sum of the
-- magnitudes, and no word correlates above that; where every soft value speaks for its bit no other word correlates so high.
use Rattle.std.specs.Prelude.{◌≡◌, refl, Bool, true, false, cond, List, [], ◌∷◌, ℕ, zero, suc, ◌+◌, ◌*◌, ◌≤◌, length, T, eqb, ℤ, pos, negsuc, nat_abs, ◌-ℤ◌}
use Rattle.std.proofs.Common.{sym, ap, ap₂, subst, ◌∙◌, arith, leb→le, le→leb}
use Rattle.std.proofs.Math.Nat.{suc_inj}
use Rattle.std.proofs.Math.IntN.{+ℤ_idr}
use Rattle.std.specs.Int.Signed.{le_z}
use Rattle.spec.specs.Bits.{Bits, nil, cons}
use Rattle.spec.specs.Score.{saturated, taken, correlation}
use Rattle.laws.specs.Cost.{bit_cost, word_cost, magnitude}
use Rattle.laws.specs.ScoreCost.{correlation_is, le_z_sub}
use Rattle.laws.specs.EveryScore.{size_correlation}

-- a soft value that is not 0 and agrees in sign with the bit: above 0 for 0, below 0 for 1
pub data Favours : ℤ → ℕ → Type 0 where
  for_0 : {n : ℕ} → Favours (pos (suc n)) 0
  for_1 : {n : ℕ} → Favours (negsuc n) 1

-- one that agrees with the bit, or is 0
pub data Allows : ℤ → ℕ → Type 0 where
  neutral : {b : ℕ} → Allows (pos 0) b
  favoured : {y : ℤ} {b : ℕ} → Favours y b → Allows y b

-- each soft value and the bit at its place; there are equally many
pub data Each (P : ℤ → ℕ → Type 0) : List ℤ → List ℕ → Type 0 where
  none : Each P [] []
  more : {y : ℤ} {b : ℕ} {ys : List ℤ} {bs : List ℕ} → P y b → Each P ys bs → Each P (y ∷ ys) (b ∷ bs)

module _ {P : ℤ → ℕ → Type 0} where
  pub each_long : {ys : List ℤ} {bs : List ℕ} → Each P ys bs → length ys ≡ length bs
  each_long none = refl
  each_long (more p a) = ap suc (each_long a)

  each_map : {Q : ℤ → ℕ → Type 0} → ((y : ℤ) (b : ℕ) → P y b → Q y b) → {ys : List ℤ} {bs : List ℕ} → Each P ys bs → Each Q ys bs
  each_map f none = none
  each_map f (more {y} {b} p a) = more (f y b p) (each_map f a)

  each_taken : ((y : ℤ) (b : ℕ) → P y b → P (saturated y) b) → {ys : List ℤ} {bs : List ℕ} → Each P ys bs → Each P (taken ys) bs
  each_taken f none = none
  each_taken f (more {y} {b} p a) = more (f y b p) (each_taken f a)

-- what agrees with each bit speaks against none
pub each_allows : {ys : List ℤ} {bs : List ℕ} → Each Favours ys bs → Each Allows ys bs
each_allows = each_map (λ y b. favoured)

-- ---- soft values as they are taken keep their signs
favours_saturated : (y : ℤ) (b : ℕ) → Favours y b → Favours (saturated y) b
favours_saturated y b for_0 = for_0
favours_saturated y b (for_1 {n}) = go (eqb n 2047)
  where
    go : (t : Bool) → Favours (cond t (negsuc 2046) (negsuc n)) 1
    go true = for_1
    go false = for_1

allows_saturated : (y : ℤ) (b : ℕ) → Allows y b → Allows (saturated y) b
allows_saturated y b neutral = neutral
allows_saturated y b (favoured f) = favoured (favours_saturated y b f)

pub favours_taken : {ys : List ℤ} {bs : List ℕ} → Each Favours ys bs → Each Favours (taken ys) bs
favours_taken = each_taken favours_saturated

pub allows_taken : {ys : List ℤ} {bs : List ℕ} → Each Allows ys bs → Each Allows (taken ys) bs
allows_taken = each_taken allows_saturated

-- ---- the sum of the magnitudes: a word that is allowed correlates at it
free_bit : (y : ℤ) (b : ℕ) → Allows y b → bit_cost y b ≡ 0
free_bit y zero neutral = refl
free_bit y (suc b) neutral = refl
free_bit y b (favoured for_0) = refl
free_bit y b (favoured for_1) = refl

pub allowed_free : {y : List ℤ} {w : List ℕ} → Each Allows y w → word_cost y w ≡ 0
allowed_free none = refl
allowed_free (more {y} {b} p a) = ap₂ ◌+◌ (free_bit y b p) (allowed_free a)

pub allowed_at_sum : {y : List ℤ} {w : List ℕ} → Each Allows y w → correlation y w ≡ pos (magnitude y)
allowed_at_sum {y} {w} a =
    correlation_is y w (each_long a) ∙ ap (λ (k : ℕ). pos (magnitude y) -ℤ pos (2 * k)) (allowed_free a) ∙ +ℤ_idr (pos (magnitude y))

-- no word correlates above it
pub none_above_sum : (y : List ℤ) (w : List ℕ) → T (le_z (correlation y w) (pos (magnitude y)))
none_above_sum y w = small (correlation y w) (magnitude y) (size_correlation y w)
  where
    small : (z : ℤ) (n : ℕ) → nat_abs z ≤ n → T (le_z z (pos n))
    small (pos k) n h = le→leb k n h
    small (negsuc k) n h = tt

-- and where each soft value favours its bit, no other word reaches it
only_free : {y : List ℤ} {w : List ℕ} → Each Favours y w → {v : List ℕ} → Bits v → length v ≡ length w → word_cost y v ≡ 0 → v ≡ w
only_free none nil e h = refl
only_free none (cons k t) e h = absurd (omega (arith, e))
only_free (more f a) nil e h = absurd (omega (arith, e))
only_free (more for_0 a) (cons {x = zero} k t) e h = ap (λ (r : List ℕ). 0 ∷ r) (only_free a t (suc_inj e) (omega (arith, h)))
only_free (more for_0 a) (cons {x = suc x} k t) e h = absurd (omega (arith, h))
only_free (more for_1 a) (cons {x = zero} k t) e h = absurd (omega (arith, h))
only_free (more for_1 a) (cons {x = suc zero} k t) e h = ap (λ (r : List ℕ). 1 ∷ r) (only_free a t (suc_inj e) (omega (arith, h)))
only_free (more for_1 a) (cons {x = suc (suc x)} k t) e h = absurd (omega (arith, k))

pub only_at_sum : {y : List ℤ} {w : List ℕ} → Each Favours y w → {v : List ℕ} → Bits v → length v ≡ length w
    → T (le_z (pos (magnitude y)) (correlation y v)) → v ≡ w
only_at_sum {y} {w} a {v} t e h =
    let s : ℤ = pos (magnitude y) in
    let k : ℕ = 2 * word_cost y v in
    let none_lost : T (le_z (s -ℤ pos 0) (s -ℤ pos k))
    = subst T (ap₂ le_z (sym (+ℤ_idr s)) (correlation_is y v (each_long a ∙ sym e))) h in
    only_free a t e (omega (arith, leb→le k 0 (subst T (le_z_sub (magnitude y) 0 k) none_lost)))
