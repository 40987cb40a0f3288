-- The invariant: what it is for the tables to be right for every live path, through its slot numbers.
use Rattle.std.specs.Prelude.{◌≡◌, List, Bool, ℕ, suc, ◌+◌, ◌*◌, ◌-◌, ◌<◌, ◌^◌, get_or, length, ℤ}
use Rattle.spec.specs.Bits.{Bits}
use Rattle.laws.specs.Cost.{last, magnitude}
use Rattle.laws.specs.Nodes.{node_soft, node_prefix, odd, kind, phase, is_even}
use Rattle.laws.specs.Cells.{Cell, Good}
use Rattle.tables.specs.Tab.{slot_start}

-- node i of a layer of w nodes: its window and even bit in slot s, its sum and odd bit in slot o
abbrev pub cell_in : ℕ → ℕ → List ℕ → List ℕ → ℕ → ℕ → ℕ → ℕ → Cell
cell_in l h t b w s o i = record {
  costs = λ x. get_or t (16 * (slot_start w l s + i) + x) 0;
  even_bit = get_or b (slot_start w l s + i) 0;
  sum_bit = get_or b (h + slot_start w l o + i) 0;
  odd_bit = get_or b (2 * h + slot_start w l o + i) 0;
}

-- ---- what depends on the layer rule
module _ (arikan : Bool) where
  -- the cells of the layer d below the top, k above the bottom, for the prefix v
  abbrev pub Right : ℕ → ℕ → List ℤ → List ℕ → (ℕ → Cell) → Type 0
  Right k d y v C = (i : ℕ) → i < 2 ^ d → Good arikan (suc (suc k)) (node_soft d y i) (node_prefix arikan d v i) (C i)

  -- for every path r, with the prefix vs r and the slots S r and O r
  abbrev pub AllRight : ℕ → ℕ → ℕ → ℕ → ℕ → List ℤ → (ℕ → List ℕ) → List ℕ → List ℕ → (ℕ → ℕ) → (ℕ → ℕ) → Type 0
  AllRight k d l h count y vs t b S O = (r : ℕ) → r < count → Right k d y (vs r) (cell_in l h t b (2 ^ d) (S r) (O r))

  -- what a layer's pass stands on: the children of every path's nodes are right for its prefix of N bits, and its even
  -- bits are there
  pub record Below (k d l h count w n : ℕ) (ev : Bool) (y : List ℤ) (N : ℕ) (vs : ℕ → List ℕ) (t b : List ℕ)
      (S O : ℕ → ℕ) : Type 0 where
    pub width : w ≡ 2 ^ d
    pub bits : (r : ℕ) → r < count → Bits (vs r)
    pub long : (r : ℕ) → r < count → length (vs r) ≡ N
    pub after : kind (phase d N) ≡ odd
    pub inside : phase d N < 2 ^ suc (suc (suc k))
    pub left : n ≡ 2 ^ suc (suc (suc k)) - phase d N
    pub reads : ev ≡ is_even (kind (phase (suc d) N))
    pub small : magnitude y < 2 ^ 31
    pub kids : AllRight k (suc d) l h count y vs t b S O
    pub evens : (r i : ℕ) → r < count → i < 2 ^ d → get_or b (slot_start (2 ^ d) l r + i) 0 ≡ last (node_prefix arikan d (vs r) i)
