-- The pass that splits a word in place into the inputs of its halves, pair by pair from the front. Assumes nothing.
use mathlib.Core.Path.{◌≡◌, sym, ap, ap₂, ◌∙◌}
use mathlib.Core.List.{List, ◌∷◌}
use Prim.Native.Nat.{ℕ, suc, ◌+◌, ◌-◌, ◌*◌, ◌<◌}
use native.Mathlib.Omega.{arith}
use lib.ListN.{length, get_or, set, length-set}
use lib.Seq.{get_or-set_other, set-get_or}
use lib.Bits.{bit_xor}
use Rattle.spec.specs.Bits.{◌⊕◌, Bits}
use Rattle.spec.specs.Transform.{input_a, input_b, first_bit}
use Rattle.laws.specs.BitLaws.{⊕-lt, ⊕-xor, bits_at}
use Rattle.laws.specs.Inverse.{input_a_cons, input_b_cons}
use Rattle.transform.specs.Strided.{Strided, picked, placed, split_at}
use Rattle.transform.proofs.Layers.{stride_some}
use Rattle.transform.proofs.Strides.{bits_set, set_before, picked_set, one_more}

-- where the loop stands: k + 1 pairs are left from i on, and to split these is what is left of the whole
pub record Split (h at d : ℕ) (s₀ s : List ℕ) (k i : ℕ) : Type 0 where
  pub place : i + 2 * d * suc k ≡ at + length s₀
  pub kept : length s ≡ length s₀
  pub bits : Bits s
  pub rest : split_at at d h s₀ ≡ split_at i d (suc k) s

-- the front pair is written first
front_pair : (j d a b : ℕ) (p q s : List ℕ) → 0 < d
    → placed j (2 * d) (a ∷ p) (placed (j + d) (2 * d) (b ∷ q) s) ≡ placed (j + 2 * d) (2 * d) p (placed (j + 2 * d + d) (2 * d) q (set (set s (j + d) b) j a))
front_pair j d a b p q s h =
    let e : j + d + 2 * d ≡ j + 2 * d + d = omega arith in
    ap (λ (r : ℕ). set (placed (j + 2 * d) (2 * d) p (set (placed r (2 * d) q s) (j + d) b)) j a) e
    ∙ ap (λ (t : List ℕ). set (placed (j + 2 * d) (2 * d) p t) j a) (sym (set_before (j + 2 * d + d) (2 * d) q s (j + d) b (omega arith)))
    ∙ sym (set_before (j + 2 * d) (2 * d) p (placed (j + 2 * d + d) (2 * d) q (set s (j + d) b)) j a (omega arith))
    ∙ ap (placed (j + 2 * d) (2 * d) p) (sym (set_before (j + 2 * d + d) (2 * d) q (set s (j + d) b) j a (omega arith)))

module _ {h at d : ℕ} {s₀ s : List ℕ} {k i : ℕ} (g : Strided (2 * h) at d s₀) (t : Split h at d s₀ s k i) where
  room : 0 < d
  room = stride_some g

  pairs : 2 * d * suc k ≡ 2 * d * k + 2 * d
  pairs = omega arith

  -- ---- a pair that another one follows
  pub split_turn : 0 < k → Split h at d s₀
      (set (set s (i + d) (bit_xor (get_or s (i + d) 0) (get_or s (i + 2 * d) 0))) i
      (bit_xor (get_or (set s (i + d) (bit_xor (get_or s (i + d) 0) (get_or s (i + 2 * d) 0))) i 0) (bit_xor (get_or s (i + d) 0) (get_or s (i + 2 * d) 0)))) (k - 1) (i + 2 * d)
  split_turn n =
      let x : ℕ = get_or s i 0 in
      let y : ℕ = get_or s (i + d) 0 in
      let z : ℕ = get_or s (i + 2 * d) 0 in
      let hx : x < 2 = bits_at t.bits i in
      let hy : y < 2 = bits_at t.bits (i + d) in
      let hz : z < 2 = bits_at t.bits (i + 2 * d) in
      let eb : bit_xor y z ≡ y ⊕ z = sym (⊕-xor y z hy hz) in
      let rx : get_or (set s (i + d) (bit_xor y z)) i 0 ≡ x = get_or-set_other s (i + d) i (bit_xor y z) 0 (λ (e : i ≡ i + d). omega (arith, room)) in
      let ea : bit_xor (get_or (set s (i + d) (bit_xor y z)) i 0) (bit_xor y z) ≡ x ⊕ (y ⊕ z)
      = ap₂ bit_xor rx eb ∙ sym (⊕-xor x (y ⊕ z) hx (⊕-lt y z hy)) in
      let less : suc (k - 1) ≡ k = omega arith in
      let further : List ℕ = picked (i + 2 * d) d (2 * k) s in
      let front : first_bit further ≡ z = ap (λ (c : ℕ). first_bit (picked (i + 2 * d) d (2 * c) s)) (sym less) ∙ (rw (one_more (k - 1))) in
      let word : picked i d (2 * suc k) s ≡ x ∷ y ∷ further
      = ap (λ (c : ℕ). picked i d c s) (one_more k) ∙ ap (λ (q : ℕ). x ∷ y ∷ picked q d (2 * k) s) (omega arith) in
      let t' : List ℕ = set (set s (i + d) (y ⊕ z)) i (x ⊕ (y ⊕ z)) in
      let same : picked (i + 2 * d) d (2 * k) t' ≡ further
      = picked_set (i + 2 * d) d (2 * k) (set s (i + d) (y ⊕ z)) i (x ⊕ (y ⊕ z)) (omega (arith, room))
      ∙ picked_set (i + 2 * d) d (2 * k) s (i + d) (y ⊕ z) (omega (arith, room)) in
      rw (ea, eb) (record {
        place = rw less (omega (arith, t.place, pairs));
        kept = simp length-set t.kept;
        bits = bits_set i (x ⊕ (y ⊕ z)) (⊕-lt x (y ⊕ z) hx) (bits_set (i + d) (y ⊕ z) (⊕-lt y z hy) t.bits);
        rest = t.rest
            ∙ ap (λ (w : List ℕ). placed i (2 * d) (input_a w) (placed (i + d) (2 * d) (input_b w) s)) word
            ∙ ap₂ (λ (p q : List ℕ). placed i (2 * d) p (placed (i + d) (2 * d) q s)) (input_a_cons x y further) (input_b_cons x y further)
            ∙ ap (λ (f : ℕ). placed i (2 * d) ((x ⊕ (y ⊕ f)) ∷ input_a further) (placed (i + d) (2 * d) ((y ⊕ f) ∷ input_b further) s)) front
            ∙ front_pair i d (x ⊕ (y ⊕ z)) (y ⊕ z) (input_a further) (input_b further) s room
            ∙ ap (λ (w : List ℕ). placed (i + 2 * d) (2 * d) (input_a w) (placed (i + 2 * d + d) (2 * d) (input_b w) t')) (sym same)
            ∙ ap (λ (c : ℕ). split_at (i + 2 * d) d c t') (sym less);
      })

  -- ---- the last pair
  pub split_last : k ≡ 0 → set s i (bit_xor (get_or s i 0) (get_or s (i + d) 0)) ≡ split_at at d h s₀
  split_last e =
      let x : ℕ = get_or s i 0 in
      let y : ℕ = get_or s (i + d) 0 in
      let ea : bit_xor x y ≡ x ⊕ y = sym (⊕-xor x y (bits_at t.bits i) (bits_at t.bits (i + d))) in
      ap (set s i) ea
      ∙ ap (λ (r : List ℕ). set r i (x ⊕ y)) (sym (set-get_or s (i + d) 0))
      ∙ ap (λ (c : ℕ). split_at i d (suc c) s) (sym e)
      ∙ sym t.rest
