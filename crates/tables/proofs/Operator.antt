-- The operator on windows: it looks at sixteen words and two bits, and its sums do not wrap where the costs are
-- small.
use mathlib.Core.Path.{◌≡◌, ap₂}
use mathlib.Core.Bool.{Bool}
use Prim.Native.Nat.{ℕ, ◌+◌, ◌/◌, ◌%◌, ◌<◌, ◌^◌, min}
use native.Mathlib.Nat.{mod-eq_of_lt}
use native.Mathlib.Omega.{arith}
use Rattle.spec.specs.Bits.{◌⊕◌}
use Rattle.laws.specs.Places.{carry}
use Rattle.laws.specs.Windows.{pack4, op4}
use Rattle.laws.specs.Nodes.{Kind, none, odd, even, ⊕-lt}
use Rattle.laws.specs.Cells.{Cell, read3, Same3, Same4, mask4_same}
use Rattle.windows.specs.Op.{lift32, op4w}
use Rattle.windows.specs.Start.{first32}

-- ---- two cells with the same sixteen costs
abbrev Costs : Cell → Cell → Type 0
Costs c c' = (x : ℕ) → x < 16 → c.costs x ≡ c'.costs x

-- at an even phase the odd bit counts too
read3_same : (k : Kind) (c c' : Cell) → Costs c c' → c.odd_bit ≡ c'.odd_bit → c'.odd_bit < 2
    → Same3 (read3 k c) (read3 k c')
read3_same none c c' t q l x y z hx hy hz
    = ap₂ min (t (pack4 x y z 0) (omega arith)) (t (pack4 x y z 1) (omega arith))
read3_same odd c c' t q l x y z hx hy hz = ap₂ min (t (pack4 x y z 0) (omega arith)) (t (pack4 x y z 1) (omega arith))
read3_same even c c' t q l x y z hx hy hz = rw q (t (pack4 c'.odd_bit x y z) (omega arith))

-- ---- what depends on the layer rule
module _ (arikan : Bool) where
  -- no sum wraps
  pub op_full : (f g : ℕ → ℕ → ℕ → ℕ) → ((a b c : ℕ) → f a b c < 2 ^ 31) → ((a b c : ℕ) → g a b c < 2 ^ 31)
      → (e a b c d : ℕ) → op4w arikan f g e a b c d ≡ op4 arikan f g e a b c d
  op_full f g p q e a b c d = ap₂ min (at 0) (at 1)
    where
      s : ℕ
      s = a ⊕ carry arikan b

      u : ℕ
      u = c ⊕ carry arikan d

      at : (t : ℕ) → (f (e ⊕ s) (b ⊕ u) (d ⊕ t) + g s u t) % 2 ^ 32 ≡ f (e ⊕ s) (b ⊕ u) (d ⊕ t) + g s u t
      at t = mod-eq_of_lt (omega (arith, p (e ⊕ s) (b ⊕ u) (d ⊕ t), q s u t))

  -- on bits it is as its arguments are
  pub op_same : (f f' g g' : ℕ → ℕ → ℕ → ℕ) (e : ℕ) → e < 2 → Same3 f f' → Same3 g g'
      → Same4 (op4w arikan f g e) (op4w arikan f' g' e)
  op_same f f' g g' e he p q a b c d ha hb hc hd = ap₂ min (at 0 (omega arith)) (at 1 (omega arith))
    where
      s : ℕ
      s = a ⊕ carry arikan b

      u : ℕ
      u = c ⊕ carry arikan d

      at : (t : ℕ) → t < 2
          → (f (e ⊕ s) (b ⊕ u) (d ⊕ t) + g s u t) % 2 ^ 32 ≡ (f' (e ⊕ s) (b ⊕ u) (d ⊕ t) + g' s u t) % 2 ^ 32
      at t ht = ap₂ (λ (v w : ℕ). (v + w) % 2 ^ 32)
          (p (e ⊕ s) (b ⊕ u) (d ⊕ t) (⊕-lt e s he) (⊕-lt b u hb) (⊕-lt d t hd))
          (q s u t (⊕-lt a (carry arikan b) ha) (⊕-lt c (carry arikan d) hc) ht)

  pub lift32_same : (n : ℕ) (k : Kind) (ca cb ca' cb' : Cell) (e : ℕ) → e < 2 → Costs ca ca' → Costs cb cb'
      → ca.odd_bit ≡ ca'.odd_bit → cb.odd_bit ≡ cb'.odd_bit → ca'.odd_bit < 2 → cb'.odd_bit < 2
      → (x : ℕ) → lift32 arikan n k ca cb e x ≡ lift32 arikan n k ca' cb' e x
  lift32_same n k ca cb ca' cb' e he ta tb qa qb la lb x =
      mask4_same n (op4w arikan (read3 k ca) (read3 k cb) e) (op4w arikan (read3 k ca') (read3 k cb') e)
      (op_same (read3 k ca) (read3 k ca') (read3 k cb) (read3 k cb') e he (read3_same k ca ca' ta qa la)
      (read3_same k cb cb' tb qb lb))
      (x % 2) (x / 2 % 2) (x / 4 % 2) (x / 8 % 2) (omega arith) (omega arith) (omega arith) (omega arith)

  pub first32_same : (a b a' b' : Cell) → Costs a a' → Costs b b' → a.odd_bit ≡ a'.odd_bit → b.odd_bit ≡ b'.odd_bit
      → a'.odd_bit < 2 → b'.odd_bit < 2
      → (x : ℕ) → first32 arikan a b x ≡ first32 arikan a' b' x
  first32_same a b a' b' p q qa qb la lb x = ap₂ min (at 0 (omega arith)) (at 1 (omega arith))
    where
      at : (f : ℕ) → f < 2
          → op4w arikan (read3 odd a) (read3 odd b) (x % 2) (x / 2 % 2) (x / 4 % 2) (x / 8 % 2) f
          ≡ op4w arikan (read3 odd a') (read3 odd b') (x % 2) (x / 2 % 2) (x / 4 % 2) (x / 8 % 2) f
      at f hf = op_same (read3 odd a) (read3 odd a') (read3 odd b) (read3 odd b') (x % 2) (omega arith)
          (read3_same odd a a' p qa la) (read3_same odd b b' q qb lb)
          (x / 2 % 2) (x / 4 % 2) (x / 8 % 2) f (omega arith) (omega arith) (omega arith) hf
