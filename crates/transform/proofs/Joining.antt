-- The pass that joins a word in place from the inputs of its halves, pair by pair from the end. Assumes nothing.
use mathlib.Core.Path.{◌≡◌, refl, sym, ap, ap₂, ◌∙◌}
use mathlib.Core.List.{List, ◌∷◌}
use Prim.Native.Nat.{ℕ, suc, ◌+◌, ◌-◌, ◌*◌, ◌≤◌, ◌<◌}
use native.Mathlib.Nat.{mul-le-mul_left}
use native.Mathlib.Omega.{arith}
use lib.ListN.{length, get_or, set}
use lib.Seq.{get_or-set_same, get_or-set_other, set-get_or, set_comm}
use lib.Bits.{bit_xor}
use Rattle.spec.specs.Bits.{◌⊕◌}
use Rattle.spec.specs.Transform.{first_bit, joined}
use Rattle.laws.specs.BitLaws.{⊕-xor, bits_at, bits_first}
use Rattle.laws.specs.Inverse.{bits_joined}
use Rattle.transform.specs.Strided.{Strided, picked, placed}
use Rattle.transform.proofs.Layers.{stride_some, twice}
use Rattle.transform.proofs.Strides.{length_placed, bits_picked, get_before, one_less}

-- the pairs from i on, h - k of them, joined
abbrev rest : ℕ → ℕ → ℕ → ℕ → List ℕ → List ℕ
rest h d k i s = joined (picked i (2 * d) (h - k) s) (picked (i + d) (2 * d) (h - k) s)

-- where the pass stands: k pairs are left, and those from i on are joined
pub record Joined (h at d : ℕ) (s₀ s : List ℕ) (k i : ℕ) : Type 0 where
  pub left : k ≤ h
  pub place : i ≡ at + 2 * d * k
  pub done : s ≡ placed i d (rest h d k i s₀) s₀

none_joined : (h at d : ℕ) {s : List ℕ} → Strided (2 * h) at d s → Joined h at d s s h (at + 2 * d * h)
none_joined h at d g =
    let none : h - h ≡ 0 = omega arith in
    record { left = omega arith; place = refl; done = rw none }

module _ {h at d : ℕ} {s₀ s : List ℕ} {k i : ℕ} (g : Strided (2 * h) at d s₀) (t : Joined h at d s₀ s k i) where
  room : 0 < d
  room = stride_some g

  pub kept : length s ≡ length s₀
  kept = ap length t.done ∙ length_placed i d (rest h d k i s₀) s₀

  -- ---- the pair of the next turn, at j = at + 2 d (k - 1) and at j + d
  abbrev j : ℕ
  j = at + 2 * d * (k - 1)

  module _ (n : 0 < k) where
    back : j + 2 * d ≡ i
    back = omega (arith, t.place, one_less (2 * d) k n)

    unread : (q : ℕ) → q < i → get_or s q 0 ≡ get_or s₀ q 0
    unread q l = ap (λ (r : List ℕ). get_or r q 0) t.done ∙ get_before i d (rest h d k i s₀) s₀ q l

    turn : (next : ℕ) → next ≡ first_bit (rest h d k i s₀) → Joined h at d s₀
        (set (set s j (bit_xor (get_or s j 0) (get_or s (j + d) 0))) (j + d) (bit_xor (get_or s (j + d) 0) next))
        (k - 1) j
    turn next carried =
        let x : ℕ = get_or s₀ j 0 in
        let y : ℕ = get_or s₀ (j + d) 0 in
        let r : List ℕ = rest h d k i s₀ in
        let rx : get_or s j 0 ≡ x = unread j (omega (arith, back, room)) in
        let ry : get_or s (j + d) 0 ≡ y = unread (j + d) (omega (arith, back, room)) in
        let hy : y < 2 = bits_at g.bits (j + d) in
        let hn : first_bit r < 2 = bits_first (bits_joined (bits_picked i (2 * d) (h - k) g.bits) (bits_picked (i + d) (2 * d) (h - k) g.bits)) in
        let ex : bit_xor (get_or s j 0) (get_or s (j + d) 0) ≡ x ⊕ y = ap₂ bit_xor rx ry ∙ sym (⊕-xor x y (bits_at g.bits j) hy) in
        let ey : bit_xor (get_or s (j + d) 0) next ≡ y ⊕ first_bit r = ap₂ bit_xor ry carried ∙ sym (⊕-xor y (first_bit r) hy hn) in
        let b : j + d + d ≡ i = omega (arith, back) in
        let b₂ : j + d + 2 * d ≡ i + d = omega (arith, back) in
        let more : h - (k - 1) ≡ suc (h - k) = omega (arith, t.left) in
        let more_a : picked j (2 * d) (h - (k - 1)) s₀ ≡ x ∷ picked i (2 * d) (h - k) s₀ = rw more (ap (λ (q : ℕ). x ∷ picked q (2 * d) (h - k) s₀) back) in
        let more_b : picked (j + d) (2 * d) (h - (k - 1)) s₀ ≡ y ∷ picked (i + d) (2 * d) (h - k) s₀ = rw more (ap (λ (q : ℕ). y ∷ picked q (2 * d) (h - k) s₀) b₂) in
        record {
          left = omega (arith, t.left);
          place = refl;
          done = rw (ex, ey, more_a, more_b)
              (ap (λ (w : List ℕ). set (set w j (x ⊕ y)) (j + d) (y ⊕ first_bit r)) (t.done ∙ ap (λ (q : ℕ). placed q d r s₀) (sym b))
              ∙ set_comm (placed (j + d + d) d r s₀) j (j + d) (x ⊕ y) (y ⊕ first_bit r) (λ (z : j ≡ j + d). omega (arith, room)));
        }

  -- ---- the first of the bits joined so far, where there are any
  pub front_fits : k < h → i + d < length s
  front_fits n =
      let more : 2 * d * suc k ≡ 2 * d * k + 2 * d = omega arith in
      rw kept (omega (arith, t.place, more, g.first, twice h g, mul-le-mul_left (2 * d) n))

  front : k < h → get_or s i 0 ≡ first_bit (rest h d k i s₀)
  front n =
      let more : h - k ≡ suc (h - k - 1) = omega arith in
      let a : ℕ = get_or s₀ i 0 ⊕ get_or s₀ (i + d) 0 in
      let w : List ℕ = joined (picked (i + 2 * d) (2 * d) (h - k - 1) s₀) (picked (i + d + 2 * d) (2 * d) (h - k - 1) s₀) in
      let further : List ℕ = placed (i + d) d ((get_or s₀ (i + d) 0 ⊕ first_bit w) ∷ w) s₀ in
      let first : rest h d k i s₀ ≡ a ∷ (get_or s₀ (i + d) 0 ⊕ first_bit w) ∷ w = ap (λ (c : ℕ). joined (picked i (2 * d) c s₀) (picked (i + d) (2 * d) c s₀)) more in
      let lies : i < length further = rw (length_placed (i + d) d ((get_or s₀ (i + d) 0 ⊕ first_bit w) ∷ w) s₀) (omega (arith, front_fits n, kept)) in
      ap (λ (r : List ℕ). get_or r i 0) (t.done ∙ ap (λ (r : List ℕ). placed i d r s₀) first)
      ∙ get_or-set_same further i a 0 lies
      ∙ sym (ap first_bit first)

  pub joined_turn : k < h → 0 < k → Joined h at d s₀
      (set (set s j (bit_xor (get_or s j 0) (get_or s (j + d) 0))) (j + d)
      (bit_xor (get_or s (j + d) 0) (get_or (set s j (bit_xor (get_or s j 0) (get_or s (j + d) 0))) (j + 2 * d) 0)))
      (k - 1) j
  joined_turn m n =
      let v : ℕ = bit_xor (get_or s j 0) (get_or s (j + d) 0) in
      turn n (get_or (set s j v) (j + 2 * d) 0)
      (ap (λ (q : ℕ). get_or (set s j v) q 0) (back n) ∙ get_or-set_other s j i v 0 (λ (e : i ≡ j). omega (arith, back n, room)) ∙ front m)

-- ---- the last pair of the word, behind which nothing stands
pub joined_first : (h at d : ℕ) {s : List ℕ} → Strided (2 * h) at d s → Joined h at d s
    (set s (at + 2 * d * (h - 1)) (bit_xor (get_or s (at + 2 * d * (h - 1)) 0) (get_or s (at + 2 * d * (h - 1) + d) 0))) (h - 1) (at + 2 * d * (h - 1))
joined_first h at d {s} g =
    let j : ℕ = at + 2 * d * (h - 1) in
    let y : ℕ = get_or s (j + d) 0 in
    let v : ℕ = bit_xor (get_or s j 0) y in
    let t : Joined h at d s s h (at + 2 * d * h) = none_joined h at d g in
    let n : 0 < h = omega (arith, g.some) in
    let none : h - h ≡ 0 = omega arith in
    let same : bit_xor y 0 ≡ get_or (set s j v) (j + d) 0
    = sym (⊕-xor y 0 (bits_at g.bits (j + d)) (omega arith))
    ∙ sym (get_or-set_other s j (j + d) v 0 (λ (e : j + d ≡ j). omega (arith, g.first))) in
    let stays : set (set s j v) (j + d) (bit_xor y 0) ≡ set s j v = ap (set (set s j v) (j + d)) same ∙ set-get_or (set s j v) (j + d) 0 in
    rw stays at (turn g t n 0 (rw none))
