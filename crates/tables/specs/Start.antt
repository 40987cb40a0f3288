-- The start, where no bit is decided: what the tables then hold.
use Rattle.std.specs.Prelude.{◌≡◌, ◌⊎◌, List, [], Bool, false, ℕ, suc, ◌+◌, ◌*◌, ◌<◌, ◌≤◌, ◌^◌, get_or, length, ℤ}
use Rattle.spec.specs.Faults.{some}
use Rattle.spec.specs.Refusals.{out_of_range}
use Rattle.laws.specs.Cost.{magnitude}
use Rattle.laws.specs.Windows.{F, W4, at4}
use Rattle.laws.specs.Nodes.{node_soft}
use Rattle.windows.specs.Op.{tab_at}
use Rattle.windows.specs.Start.{first32}
use Rattle.tables.specs.Tab.{slot_start}

pub record StartSize (deep q l h : ℕ) (t : List ℕ) (soft : List ℤ) : Type 0 where
  pub deepest : deep ≤ 8
  pub bottom : q ≡ 2 ^ deep
  pub paths : 1 ≤ l
  pub long : l ≤ 32
  pub low : slot_start (2 ^ suc deep) l 0 ≤ h
  pub near : h ≤ 1000000
  pub costs : 16 * (h + 2 ^ deep) ≤ length t
  pub whole : length soft ≡ 2 ^ suc (suc deep)
  pub range : some out_of_range soft ≡ false

-- a word that is not among these
pub record Outside (deep l h j : ℕ) : Type 0 where
  pub costs : (j < 16 * h) ⊎ (16 * (h + 2 ^ deep) ≤ j)
  pub layers : (d : ℕ) → d ≤ deep → (j < 16 * slot_start (2 ^ d) l 0) ⊎ (16 * (slot_start (2 ^ d) l 0 + 2 ^ d) ≤ j)

pub record Untouched (deep l h : ℕ) (t t' : List ℕ) : Type 0 where
  pub same : length t' ≡ length t
  pub rest : (j : ℕ) → Outside deep l h j → get_or t' j 0 ≡ get_or t j 0

-- ---- what depends on the layer rule
module _ (arikan : Bool) where
  -- the window of node i of w, from the children's at src
  abbrev pub first_f : ℕ → ℕ → List ℕ → ℕ → ℕ → ℕ
  first_f src w t i = first32 arikan (tab_at t (16 * (src + i)) 0) (tab_at t (16 * (src + w + i)) 0)

  -- the bottom's costs, of every word of four bits
  abbrev pub Costs : ℕ → ℕ → List ℤ → List ℕ → Type 0
  Costs deep h y t = (i x : ℕ) → i < 2 ^ deep → x < 16 → get_or t (16 * (h + i) + x) 0 ≡ F arikan (node_soft deep y i) x

  -- the windows of the empty prefix, k layers above the bottom
  abbrev pub First : ℕ → ℕ → ℕ → List ℤ → List ℕ → Type 0
  First k d l y t = (i x : ℕ) → i < 2 ^ d → x < 16
      → get_or t (16 * (slot_start (2 ^ d) l 0 + i) + x) 0 ≡ at4 (W4 arikan (suc (suc k)) (node_soft d y i) []) x

  -- for the soft values y the tables are ready for the first bit: the bottom's costs, and in slot 0 the windows of
  -- every layer
  pub record Started (deep l h : ℕ) (y : List ℤ) (t : List ℕ) : Type 0 where
    pub base : Costs deep h y t
    pub windows : (k d : ℕ) → k + d ≡ deep → First k d l y t
    pub small : magnitude y < 2 ^ 31
