-- The score of a prefix is the sum of the soft values' sizes less twice its cost.
use Rattle.std.specs.Prelude.{◌≡◌, refl, Bool, true, false, not, cond, List, [], ◌∷◌, ◌++◌, length, leb, ℤ, negsuc, neg_ℤ, nat_abs, ◌+ℤ◌, ◌-ℤ◌}
use Rattle.std.proofs.Math.Path.{sym, ap₂}
use Rattle.std.proofs.Common.{ap, subst, ◌∙◌, arith, leb→le}
use Prim.Native.Nat.{ℕ, zero, suc, ◌+◌, ◌-◌, ◌*◌, ◌^◌, ◌≤◌, min}
use Rattle.std.proofs.Math.Nat.{suc_inj}
use Rattle.std.proofs.Math.ListN.{length-append}
use Rattle.std.proofs.Math.Dec.{T, nleb→lt, leb-zero, leb-suc-zero, leb-suc-suc}
use Rattle.std.proofs.Math.IntN.{pos, suc_ℤ, +ℤ_assoc, +ℤ_comm, +ℤ_idr, +ℤ_idl, +ℤ_invr, neg_ℤ-+ℤ, suc_ℤ-+ℤ}
use Rattle.std.specs.Int.Signed.{le_z}
use Rattle.laws.specs.Places.{by_places}
use Rattle.spec.specs.Score.{signed, correlation, maxℤ, largest, score}
use Rattle.laws.specs.Cost.{bit_cost, word_cost, magnitude, least_cost, cost}
use Rattle.laws.specs.Layer.{length_places}

-- the score of a prefix of this cost, where the soft values' magnitudes add up to total
abbrev pub score_from : ℕ → ℕ → ℤ
score_from total cost = pos total -ℤ pos (2 * cost)

-- ---- differences of naturals

add_swap : (a b c d : ℤ) → (a +ℤ b) +ℤ (c +ℤ d) ≡ (a +ℤ c) +ℤ (b +ℤ d)
add_swap a b c d =
    +ℤ_assoc a b (c +ℤ d)
    ∙ ap (λ (z : ℤ). a +ℤ z) (sym (+ℤ_assoc b c d) ∙ ap (λ (z : ℤ). z +ℤ d) (+ℤ_comm b c) ∙ +ℤ_assoc c b d)
    ∙ sym (+ℤ_assoc a c (b +ℤ d))

pub sub_add : (a b c d : ℕ) → (pos a -ℤ pos b) +ℤ (pos c -ℤ pos d) ≡ pos (a + c) -ℤ pos (b + d)
sub_add a b c d =
    add_swap (pos a) (neg_ℤ (pos b)) (pos c) (neg_ℤ (pos d))
    ∙ ap (λ (z : ℤ). pos (a + c) +ℤ z) (sym (neg_ℤ-+ℤ (pos b) (pos d)))

sub_twice : (n : ℕ) → pos n -ℤ pos (2 * n) ≡ neg_ℤ (pos n)
sub_twice n =
    let e : 2 * n ≡ n + n = omega arith in
    ap (λ (k : ℕ). pos n -ℤ pos k) e
    ∙ ap (λ (z : ℤ). pos n +ℤ z) (neg_ℤ-+ℤ (pos n) (pos n))
    ∙ sym (+ℤ_assoc (pos n) (neg_ℤ (pos n)) (neg_ℤ (pos n)))
    ∙ ap (λ (z : ℤ). z +ℤ neg_ℤ (pos n)) (+ℤ_invr (pos n))
    ∙ +ℤ_idl (neg_ℤ (pos n))

-- ---- one bit, and a word

signed_is : (y : ℤ) (c : ℕ) → signed y c ≡ pos (nat_abs y) -ℤ pos (2 * bit_cost y c)
signed_is (pos n) zero = sym (+ℤ_idr (pos n))
signed_is (pos n) (suc c) = sym (sub_twice n)
signed_is (negsuc n) zero = sym (sub_twice (suc n))
signed_is (negsuc n) (suc c) = sym (+ℤ_idr (pos (suc n)))

pub correlation_is : (y : List ℤ) (c : List ℕ) → length y ≡ length c → correlation y c ≡ pos (magnitude y) -ℤ pos (2 * word_cost y c)
correlation_is [] c e = refl
correlation_is (y ∷ ys) [] e = absurd (omega arith)
correlation_is (y ∷ ys) (c ∷ cs) e =
    ap₂ ◌+ℤ◌ (signed_is y c) (correlation_is ys cs (suc_inj e))
    ∙ sub_add (nat_abs y) (2 * bit_cost y c) (magnitude ys) (2 * word_cost ys cs)
    ∙ ap (λ (k : ℕ). pos (nat_abs y + magnitude ys) -ℤ pos k) (twice (bit_cost y c) (word_cost ys cs))
  where
    twice : (p q : ℕ) → 2 * p + 2 * q ≡ 2 * (p + q)
    twice p q = omega arith

-- ---- the larger of two differences

le_z_suc : (x y : ℤ) → le_z (suc_ℤ x) (suc_ℤ y) ≡ le_z x y
le_z_suc (pos a) (pos b) = leb-suc-suc a b
le_z_suc (pos a) (negsuc zero) = leb-suc-zero a
le_z_suc (pos a) (negsuc (suc b)) = refl
le_z_suc (negsuc zero) (pos b) = leb-zero (suc b)
le_z_suc (negsuc (suc a)) (pos b) = refl
le_z_suc (negsuc zero) (negsuc zero) = refl
le_z_suc (negsuc zero) (negsuc (suc b)) = sym (leb-suc-zero b)
le_z_suc (negsuc (suc a)) (negsuc zero) = sym (leb-zero (suc a))
le_z_suc (negsuc (suc a)) (negsuc (suc b)) = sym (leb-suc-suc b a)

le_z_neg : (a b : ℕ) → le_z (neg_ℤ (pos a)) (neg_ℤ (pos b)) ≡ leb b a
le_z_neg zero zero = refl
le_z_neg zero (suc b) = sym (leb-suc-zero b)
le_z_neg (suc a) zero = sym (leb-zero (suc a))
le_z_neg (suc a) (suc b) = sym (leb-suc-suc b a)

pub le_z_sub : (s a b : ℕ) → le_z (pos s -ℤ pos a) (pos s -ℤ pos b) ≡ leb b a
le_z_sub zero a b = ap₂ le_z (+ℤ_idl (neg_ℤ (pos a))) (+ℤ_idl (neg_ℤ (pos b))) ∙ le_z_neg a b
le_z_sub (suc s) a b =
    ap₂ le_z (suc_ℤ-+ℤ (pos s) (neg_ℤ (pos a))) (suc_ℤ-+ℤ (pos s) (neg_ℤ (pos b)))
    ∙ le_z_suc (pos s -ℤ pos a) (pos s -ℤ pos b)
    ∙ le_z_sub s a b

pub max_sub : (s c d : ℕ) → maxℤ (pos s -ℤ pos (2 * c)) (pos s -ℤ pos (2 * d)) ≡ pos s -ℤ pos (2 * min c d)
max_sub s c d =
    ap (λ (b : Bool). cond b (v d) (v c)) (le_z_sub s (2 * c) (2 * d)) ∙ go (leb (2 * d) (2 * c)) refl
  where
    v : ℕ → ℤ
    v n = pos s -ℤ pos (2 * n)

    go : (b : Bool) → leb (2 * d) (2 * c) ≡ b → cond b (v d) (v c) ≡ v (min c d)
    go true e =
        let h : 2 * d ≤ 2 * c = leb→le (2 * d) (2 * c) (subst T (sym e) tt) in
        let e' : d ≡ min c d = omega arith in ap v e'
    go false e =
        let h : suc (2 * c) ≤ 2 * d = nleb→lt (2 * d) (2 * c) (subst (λ (b : Bool). T (not b)) (sym e) tt) in
        let e' : c ≡ min c d = omega arith in ap v e'

-- ---- a prefix: T is a transform of words of n bits
module _ (T : List ℕ → List ℕ) (n : ℕ) (same : (u : List ℕ) → length u ≡ n → length (T u) ≡ n) where
  pub largest_is : (k : ℕ) (y : List ℤ) (w : List ℕ) → length y ≡ n → length w + k ≡ n
      → largest T k y w ≡ pos (magnitude y) -ℤ pos (2 * least_cost T k y w)
  unfolding largest least_cost
  largest_is zero y w ey ew = correlation_is y (T w) (ey ∙ sym (same w (omega arith)))
  largest_is (suc k) y w ey ew =
      let ih : (b : ℕ) → largest T k y (w ++ b ∷ []) ≡ pos (magnitude y) -ℤ pos (2 * least_cost T k y (w ++ b ∷ []))
      = λ b. largest_is k y (w ++ b ∷ []) ey (omega (arith, length-append w (b ∷ []))) in
      ap₂ maxℤ (ih 0) (ih 1) ∙ max_sub (magnitude y) (least_cost T k y (w ++ 0 ∷ [])) (least_cost T k y (w ++ 1 ∷ []))

pub score_is : (arikan : Bool) (m : ℕ) (y : List ℤ) (w : List ℕ) → length y ≡ 2 ^ m → length w ≤ 2 ^ m
    → score (by_places arikan m) (2 ^ m) y w ≡ score_from (magnitude y) (cost arikan m y w)
unfolding score cost
score_is arikan m y w ey h = largest_is (by_places arikan m) (2 ^ m) (length_places arikan m) (2 ^ m - length w) y w ey (omega arith)
