-- Four bins folded at once. Assumes nothing.
use Rattle.std.proofs.Common.{◌≡◌, ℕ, ◌+◌, ◌-◌, ◌%◌, List, [], ◌∷◌, map, length, get_or, set, ℤ, ◌+ℤ◌, ◌-ℤ◌, ap, ◌∙◌, ap₂, arith}
use Rattle.correlations.specs.Folding.{wrapped, folded}
use Rattle.correlations.proofs.Crossing.{sum_is, difference_is}

-- the sum and the difference of two numbers
abbrev plus : ℕ → ℕ → ℕ
plus x y = (x + y) % 4294967296

abbrev less : ℕ → ℕ → ℕ
less x y = (x + (4294967296 - y)) % 4294967296

module _ (s : List ℕ) where
  abbrev a : ℕ
  a = plus (get_or s 0 0) (get_or s 2 0)

  abbrev b : ℕ
  b = plus (get_or s 1 0) (get_or s 3 0)

  abbrev c : ℕ
  c = less (get_or s 0 0) (get_or s 2 0)

  abbrev d : ℕ
  d = less (get_or s 1 0) (get_or s 3 0)

  pub four_folded : length s ≡ 4 → (zs : List ℤ) → s ≡ map wrapped zs
      → set (set (set (set s 0 (plus a b)) 1 (less a b)) 2 (plus c d)) 3 (less c d) ≡ map wrapped (folded 2 zs)
  unfolding folded
  four_folded l [] q = absurd (omega (arith, l, ap length q))
  four_folded l (o ∷ []) q = absurd (omega (arith, l, ap length q))
  four_folded l (o ∷ p ∷ []) q = absurd (omega (arith, l, ap length q))
  four_folded l (o ∷ p ∷ t ∷ []) q = absurd (omega (arith, l, ap length q))
  four_folded l (o ∷ p ∷ t ∷ u ∷ v ∷ zs) q = absurd (omega (arith, l, ap length q))
  four_folded l (o ∷ p ∷ t ∷ u ∷ []) q =
      let at : (i : ℕ) → get_or s i 0 ≡ get_or (map wrapped (o ∷ p ∷ t ∷ u ∷ [])) i 0 = λ i. ap (λ (r : List ℕ). get_or r i 0) q in
      let ea : a ≡ wrapped (o +ℤ t) = sum_is o t (at 0) (at 2) in
      let eb : b ≡ wrapped (p +ℤ u) = sum_is p u (at 1) (at 3) in
      let ec : c ≡ wrapped (o -ℤ t) = difference_is o t (at 0) (at 2) in
      let ed : d ≡ wrapped (p -ℤ u) = difference_is p u (at 1) (at 3) in
      ap (λ (r : List ℕ). set (set (set (set r 0 (plus a b)) 1 (less a b)) 2 (plus c d)) 3 (less c d)) q
      ∙ ap₂ (λ (i j : ℕ). i ∷ j ∷ plus c d ∷ less c d ∷ []) (sum_is (o +ℤ t) (p +ℤ u) ea eb) (difference_is (o +ℤ t) (p +ℤ u) ea eb)
      ∙ ap₂ (λ (i j : ℕ). wrapped (o +ℤ t +ℤ (p +ℤ u)) ∷ wrapped (o +ℤ t -ℤ (p +ℤ u)) ∷ i ∷ j ∷ [])
      (sum_is (o -ℤ t) (p -ℤ u) ec ed) (difference_is (o -ℤ t) (p -ℤ u) ec ed)
