-- The inputs of a code in their order are those of its payloads in theirs.
use Rattle.std.specs.Prelude.{◌≡◌, length}
use Rattle.std.proofs.Math.Path.{refl, sym, ap₂}
use Rattle.std.proofs.Common.{◌∙◌}
use mathlib.Core.List.{List, [], ◌∷◌, ◌++◌, map, map-append, map-map}
use Prim.Native.Nat.{ℕ, zero, suc}
use Rattle.spec.specs.Code.{Code, frozen, clear, payload_size, frozen_bit, filled, input_for}
use Rattle.spec.specs.WordsAbove.{onward, code_inputs}
use Rattle.payload_blocks.specs.Payloads.{payloads}

module _ (c : Code) where
  -- over positions with these flags: all that goes on from w is what the payloads fill in
  onward_is : (fs w : List ℕ) → onward c fs w ≡ map (λ (p : List ℕ). filled c fs p w) (payloads (clear fs))
  unfolding payloads
  onward_is [] w = refl
  onward_is (zero ∷ fs) w =
      let ps : List (List ℕ) = payloads (clear fs) in
      let f : List ℕ → List ℕ = λ p. filled c (0 ∷ fs) p w in
      ap₂ ◌++◌ (onward_is fs (w ++ 0 ∷ []) ∙ sym (map-map f (λ (p : List ℕ). 0 ∷ p) ps)) (onward_is fs (w ++ 1 ∷ []) ∙ sym (map-map f (λ (p : List ℕ). 1 ∷ p) ps))
      ∙ sym (map-append f (map (λ (p : List ℕ). 0 ∷ p) ps) (map (λ (p : List ℕ). 1 ∷ p) ps))
  onward_is (suc f ∷ fs) w = onward_is fs (w ++ frozen_bit c (length w) w ∷ [])

  pub inputs_are : code_inputs c ≡ map (input_for c) (payloads (payload_size c))
  unfolding code_inputs input_for
  inputs_are = onward_is (frozen c) []
