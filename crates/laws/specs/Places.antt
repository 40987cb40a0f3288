-- Both transforms by even and odd places: a_i = u_2i + b_i, and b_i = u_2i+1 + carry, where the carry is u_2i+2 or, for Arikan's (arikan), 0.
use Rattle.std.specs.Prelude.{◌≡◌, refl, Bool, true, false, cond, List, [], ◌∷◌, ℕ, zero, suc}
use Rattle.std.proofs.Common.{ap₂, ◌∙◌}
use Rattle.spec.specs.Bits.{◌⊕◌, Bits, nil, cons}
use Rattle.spec.specs.Transform.{input_a, input_b, interleave, transform}
use Rattle.laws.specs.BitLaws.{⊕-lt}

-- what b_i has of u_2i+2
abbrev pub carry : Bool → ℕ → ℕ
carry arikan zero = 0
carry arikan (suc z) = cond arikan 0 (suc z)

pub carry_all : (z : ℕ) → carry false z ≡ z
carry_all zero = refl
carry_all (suc z) = refl

pub carry_none : (z : ℕ) → carry true z ≡ 0
carry_none zero = refl
carry_none (suc z) = refl

module _ (arikan : Bool) where
  abbrev pub in_a : List ℕ → List ℕ
  in_a [] = []
  in_a (x ∷ []) = []
  in_a (x ∷ y ∷ []) = (x ⊕ y) ∷ []
  in_a (x ∷ y ∷ z ∷ r) = (x ⊕ (y ⊕ carry arikan z)) ∷ in_a (z ∷ r)

  abbrev pub in_b : List ℕ → List ℕ
  in_b [] = []
  in_b (x ∷ []) = []
  in_b (x ∷ y ∷ []) = y ∷ []
  in_b (x ∷ y ∷ z ∷ r) = (y ⊕ carry arikan z) ∷ in_b (z ∷ r)

  unfoldable pub by_places : ℕ → List ℕ → List ℕ
  by_places zero u = u
  by_places (suc m) u = interleave (by_places m (in_a u)) (by_places m (in_b u))

-- ---- the convolutional one is the definition
pub in_a_is : (u : List ℕ) → in_a false u ≡ input_a u
in_a_is [] = refl
in_a_is (x ∷ []) = refl
in_a_is (x ∷ y ∷ []) = refl
in_a_is (x ∷ y ∷ z ∷ r) = ap₂ (λ (b : ℕ) (l : List ℕ). (x ⊕ (y ⊕ b)) ∷ l) (carry_all z) (in_a_is (z ∷ r))

pub in_b_is : (u : List ℕ) → in_b false u ≡ input_b u
in_b_is [] = refl
in_b_is (x ∷ []) = refl
in_b_is (x ∷ y ∷ []) = refl
in_b_is (x ∷ y ∷ z ∷ r) = ap₂ (λ (b : ℕ) (l : List ℕ). (y ⊕ b) ∷ l) (carry_all z) (in_b_is (z ∷ r))

pub places_transform : (m : ℕ) (u : List ℕ) → by_places false m u ≡ transform m u
unfolding by_places transform
places_transform zero u = refl
places_transform (suc m) u =
    ap₂ (λ (a b : List ℕ). interleave (by_places false m a) (by_places false m b)) (in_a_is u) (in_b_is u)
    ∙ ap₂ interleave (places_transform m (input_a u)) (places_transform m (input_b u))

-- ---- words of bits
module _ (arikan : Bool) where
  pub bits_in_a : {v : List ℕ} → Bits v → Bits (in_a arikan v)
  bits_in_a nil = nil
  bits_in_a (cons a nil) = nil
  bits_in_a (cons {x = x} a (cons {x = y} b nil)) = cons (⊕-lt x y a) nil
  bits_in_a (cons {x = x} a (cons {x = y} b (cons {x = z} c p))) = cons (⊕-lt x (y ⊕ carry arikan z) a) (bits_in_a (cons c p))

  pub bits_in_b : {v : List ℕ} → Bits v → Bits (in_b arikan v)
  bits_in_b nil = nil
  bits_in_b (cons a nil) = nil
  bits_in_b (cons a (cons b nil)) = cons b nil
  bits_in_b (cons a (cons {x = y} b (cons {x = z} c p))) = cons (⊕-lt y (carry arikan z) b) (bits_in_b (cons c p))
