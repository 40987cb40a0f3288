-- The transform that a code uses, whichever it is: what it has of the layer rule, and that it and its inverse undo each other.
use Rattle.std.specs.Prelude.{◌≡◌, Bool, true, false, List, ℕ, ◌^◌, length}
use Rattle.std.proofs.Common.{sym, ap, ◌∙◌}
use Rattle.spec.specs.Bits.{Bits}
use Rattle.spec.specs.Transform.{transform_by, inverse_by}
use Rattle.laws.specs.Places.{by_places, places_transform}
use Rattle.laws.specs.Inverse.{length_transform, bits_transform, length_inverse, bits_inverse, inverse_transform, transform_inverse}
use Rattle.laws.specs.ArikanPlaces.{length_arikan, places_arikan}
use Rattle.laws.specs.ArikanInverse.{bits_arikan, length_arikan_inverse, bits_arikan_inverse, arikan_undone, arikan_redone}

module _ (m : ℕ) (u : List ℕ) (t : Bits u) (e : length u ≡ 2 ^ m) where
  -- on words of bits the two definitions are one rule, with the carry or without
  pub by_places_lem : (arikan : Bool) → transform_by arikan m u ≡ by_places arikan m u
  by_places_lem true = sym (places_arikan m u t e)
  by_places_lem false = sym (places_transform m u)

  pub undone : (arikan : Bool) → inverse_by arikan m (transform_by arikan m u) ≡ u
  undone true = arikan_undone m u t e
  undone false = inverse_transform m u t e

  pub redone : (arikan : Bool) → transform_by arikan m (inverse_by arikan m u) ≡ u
  redone true = arikan_redone m u t e
  redone false = transform_inverse m u t e

module _ (arikan : Bool) (m : ℕ) where
  -- so the transform is a bijection of these words: each is the transform of its inverse, and of no other word
  pub transform_injective : (u v : List ℕ) → Bits u → Bits v → length u ≡ 2 ^ m → length v ≡ 2 ^ m → transform_by arikan m u ≡ transform_by arikan m v → u ≡ v
  transform_injective u v p q d e h = sym (undone m u p d arikan) ∙ ap (inverse_by arikan m) h ∙ undone m v q e arikan

  pub length_transformed : (u : List ℕ) → length u ≡ 2 ^ m → length (transform_by arikan m u) ≡ 2 ^ m
  length_transformed u e = go arikan
    where
      go : (arikan : Bool) → length (transform_by arikan m u) ≡ 2 ^ m
      go true = length_arikan m u e
      go false = length_transform m u e

  pub length_inverted : (u : List ℕ) → length u ≡ 2 ^ m → length (inverse_by arikan m u) ≡ 2 ^ m
  length_inverted u e = go arikan
    where
      go : (arikan : Bool) → length (inverse_by arikan m u) ≡ 2 ^ m
      go true = length_arikan_inverse m u e
      go false = length_inverse m u e

  pub bits_transformed : {u : List ℕ} → Bits u → Bits (transform_by arikan m u)
  bits_transformed {u} t = go arikan
    where
      go : (arikan : Bool) → Bits (transform_by arikan m u)
      go true = bits_arikan m t
      go false = bits_transform m t

  pub bits_inverted : {u : List ℕ} → Bits u → Bits (inverse_by arikan m u)
  bits_inverted {u} t = go arikan
    where
      go : (arikan : Bool) → Bits (inverse_by arikan m u)
      go true = bits_arikan_inverse m t
      go false = bits_inverse m t
