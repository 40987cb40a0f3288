-- Where a node's soft values stand among those of the whole word.
use Rattle.std.specs.Prelude.{◌≡◌, refl, List, [], ◌∷◌, ℕ, zero, suc, ◌+◌, ◌*◌, ◌^◌, ◌<◌, length, get_or, ℤ, pos}
use Rattle.std.proofs.Common.{sym, ap, ap₂, ◌∙◌, arith, zero-add, mul_assoc, mul_comm}
use Rattle.spec.specs.Transform.{evens, odds}
use Rattle.laws.specs.Layer.{double, double_is, pow_double}
use Rattle.laws.specs.Entries.{get_d_evens, get_d_odds}
use Rattle.laws.specs.Inverse.{length_evens, length_odds}
use Rattle.laws.specs.Nodes.{node, node_even, node_odd, node_soft, by_child}

-- ---- node i of depth d has the values at i, i + 2 ^ d, i + 2 * 2 ^ d, ..
step_even : (p i k : ℕ) → i + p * (2 * k) ≡ i + 2 * p * k
step_even p i k = ap (λ (z : ℕ). i + z) (sym (mul_assoc p 2 k) ∙ ap (λ (z : ℕ). z * k) (mul_comm p 2))

step_odd : (p i k : ℕ) → i + p * suc (2 * k) ≡ i + p + 2 * p * k
step_odd p i k =
    let e : p * suc (2 * k) ≡ p + p * (2 * k) = omega arith in
    omega (arith, step_even p i k)

pub get_d_node_soft : (d : ℕ) (y : List ℤ) (i k : ℕ) → i < 2 ^ d → get_or (node_soft d y i) k (pos 0) ≡ get_or y (i + 2 ^ d * k) (pos 0)
unfolding node
get_d_node_soft zero y i k h = let e : i + 1 * k ≡ k = omega arith in rw e
get_d_node_soft (suc d) y i k h = by_child (λ i. get_or (node_soft (suc d) y i) k (pos 0) ≡ get_or y (i + 2 ^ suc d * k) (pos 0)) d
    (λ j l. ap (λ (z : List ℤ). get_or z k (pos 0)) (node_even evens odds d y j l) ∙ get_d_evens (node_soft d y j) k (pos 0)
    ∙ get_d_node_soft d y j (double k) l ∙ at (ap (λ (z : ℕ). j + 2 ^ d * z) (double_is k) ∙ step_even (2 ^ d) j k ∙ two j))
    (λ j l. ap (λ (z : List ℤ). get_or z k (pos 0)) (node_odd evens odds d y j) ∙ get_d_odds (node_soft d y j) k (pos 0)
    ∙ get_d_node_soft d y j (suc (double k)) l ∙ at (ap (λ (z : ℕ). j + 2 ^ d * suc z) (double_is k) ∙ step_odd (2 ^ d) j k ∙ two (j + 2 ^ d)))
    i h
  where
    at : {a b : ℕ} → a ≡ b → get_or y a (pos 0) ≡ get_or y b (pos 0)
    at e = ap (λ (z : ℕ). get_or y z (pos 0)) e

    two : (j : ℕ) → j + 2 * 2 ^ d * k ≡ j + 2 ^ suc d * k
    two j = let e : 2 ^ suc d ≡ 2 * 2 ^ d = omega arith in rw e

pub length_node_soft : (d k : ℕ) (y : List ℤ) (i : ℕ) → i < 2 ^ d → length y ≡ 2 ^ (d + k) → length (node_soft d y i) ≡ 2 ^ k
unfolding node
length_node_soft zero k y i h e = rw zero-add at e
length_node_soft (suc d) k y i h e =
    let z : suc d + k ≡ d + suc k = omega arith in
    let above : (j : ℕ) → j < 2 ^ d → length (node_soft d y j) ≡ double (2 ^ k)
    = λ j l. length_node_soft d (suc k) y j l (e ∙ ap (λ (m : ℕ). 2 ^ m) z) ∙ pow_double k in
    by_child (λ i. length (node_soft (suc d) y i) ≡ 2 ^ k) d
    (λ j l. ap length (node_even evens odds d y j l) ∙ length_evens (2 ^ k) (node_soft d y j) (above j l))
    (λ j l. ap length (node_odd evens odds d y j) ∙ length_odds (2 ^ k) (node_soft d y j) (above j l)) i h

-- ---- the four values of a bottom node, of which there are q
abbrev pub four_at : List ℤ → ℕ → ℕ → List ℤ
four_at y q i = get_or y i (pos 0) ∷ get_or y (i + q) (pos 0) ∷ get_or y (i + 2 * q) (pos 0) ∷ get_or y (i + 3 * q) (pos 0) ∷ []

four : (y : List ℤ) → length y ≡ 4 → y ≡ get_or y 0 (pos 0) ∷ get_or y 1 (pos 0) ∷ get_or y 2 (pos 0) ∷ get_or y 3 (pos 0) ∷ []
four [] e = absurd (omega arith)
four (a ∷ []) e = absurd (omega arith)
four (a ∷ b ∷ []) e = absurd (omega arith)
four (a ∷ b ∷ c ∷ []) e = absurd (omega arith)
four (a ∷ b ∷ c ∷ d ∷ []) e = refl
four (a ∷ b ∷ c ∷ d ∷ f ∷ y) e = absurd (omega arith)

pub node_soft_bottom : (deep : ℕ) (y : List ℤ) (i : ℕ) → i < 2 ^ deep → length y ≡ 2 ^ suc (suc deep) → node_soft deep y i ≡ four_at y (2 ^ deep) i
node_soft_bottom deep y i h e =
    let z : deep + 2 ≡ suc (suc deep) = omega arith in
    four (node_soft deep y i) (length_node_soft deep 2 y i h (rw z e))
    ∙ ap₂ ◌∷◌ (at 0 i (omega arith)) (ap₂ ◌∷◌ (at 1 (i + 2 ^ deep) (omega arith)) (ap₂ ◌∷◌ (at 2 (i + 2 * 2 ^ deep) (omega arith)) (ap₂ ◌∷◌ (at 3 (i + 3 * 2 ^ deep) (omega arith)) refl)))
  where
    at : (k j : ℕ) → i + 2 ^ deep * k ≡ j → get_or (node_soft deep y i) k (pos 0) ≡ get_or y j (pos 0)
    at k j p = get_d_node_soft deep y i k h ∙ ap (λ (z : ℕ). get_or y z (pos 0)) p
