-- The paths that the tables stand for, and one more bit for each: down the layers with the new bits, and up again
-- with the windows.
use Rattle.std.specs.Prelude.{◌≡◌, Bool, true, false, List, [], ◌∷◌, ◌++◌, ℕ, zero, suc, ◌+◌, ◌*◌, ◌-◌, ◌%◌, ◌<◌, ◌≤◌, ◌^◌, get_or, length, ℤ}
use Rattle.spec.specs.Bits.{Bits}
use Rattle.laws.specs.Cost.{last, magnitude}
use Rattle.laws.specs.Windows.{F}
use Rattle.laws.specs.Nodes.{node_soft, node_prefix, phase}
use Rattle.tables.specs.Tab.{slot_start, Slots}
use Rattle.tables.specs.Right.{AllRight}

-- the slot numbers of layer d: 32 of the windows and even bits, 32 of the sums and odd bits
abbrev pub slot_w : List ℕ → ℕ → ℕ → ℕ
slot_w slots d r = get_or slots (32 * d + r) 0

abbrev pub slot_o : List ℕ → ℕ → ℕ → ℕ
slot_o slots d r = get_or slots (512 + 32 * d + r) 0

-- the prefixes with the new bit
abbrev pub grown : (ℕ → List ℕ) → (ℕ → ℕ) → ℕ → List ℕ
grown ws bs r = ws r ++ bs r ∷ []

-- where a layer's new bits go, by its phase: the even bits, or the odd ones
abbrev pub field_at : ℕ → ℕ → ℕ
field_at h zero = 0
field_at h (suc p) = 2 * h

-- what a walk through e layers asks
pub record Walks (deep l h count n e : ℕ) (b slots : List ℕ) : Type 0 where
  pub deepest : deep ≤ 8
  pub far : e ≤ deep
  pub turns : (d : ℕ) → d < e → (phase d n % 2 ≡ 0) × (0 < phase d n)
  pub long : l ≤ 32
  pub few : count ≤ l
  pub low : slot_start (2 ^ suc deep) l 0 ≤ h
  pub bytes : 3 * h ≤ length b
  pub odds : (d : ℕ) → d ≤ deep → Slots l count (512 + 32 * d) slots

-- the bottom costs, which no pass writes
abbrev pub Kept : ℕ → List ℕ → List ℕ → Type 0
Kept h t t' = (j : ℕ) → 16 * h ≤ j → get_or t' j 0 ≡ get_or t j 0

pub record Named (deep l count : ℕ) (slots : List ℕ) : Type 0 where
  pub windows : (d : ℕ) → d ≤ deep → Slots l count (32 * d) slots
  pub odds : (d : ℕ) → d ≤ deep → Slots l count (512 + 32 * d) slots

pub record Climbs (deep l h count n e w x size : ℕ) (t b slots : List ℕ) : Type 0 where
  pub deepest : deep ≤ 8
  pub far : e ≤ deep
  pub turns : (d : ℕ) → d < e → (phase d n % 2 ≡ 0) × (0 < phase d n)
  pub long : l ≤ 32
  pub few : count ≤ l
  pub room : suc n ≤ 2 ^ suc (suc deep)
  pub words : 16 * slot_start (2 ^ suc deep) l 0 ≤ length t
  pub bytes : 2 * h + slot_start (2 ^ suc deep) l 0 ≤ length b
  pub below : slot_start (2 ^ suc deep) l 0 ≤ h
  pub width : w ≡ 2 ^ e
  pub at : x ≡ phase e n
  pub sized : size ≡ 2 ^ suc (suc (deep - e))

-- where the walk down ends: at an odd bit, at a first bit, or at the bottom
pub record Ends (deep l h count n e w x size : ℕ) (t b slots : List ℕ) : Type 0 where
  pub climbs : Climbs deep l h count n e w x size t b slots
  pub names : Named deep l count slots
  pub low : slot_start (2 ^ suc deep) l 0 ≤ h
  pub triple : 3 * h ≤ length b
  pub costs : 16 * (h + 2 ^ deep) ≤ length t
  pub stop : (x % 2 ≡ 0) → (0 < x) → e ≡ deep

pub record Two (x : ℕ) (r : Bool) : Type 0 where
  pub yes : r ≡ true → x ≡ 2
  pub no : r ≡ false → x ≡ 2 → ⊥

-- how far the walk down goes
pub record Reached (n deep e w x size : ℕ) : Type 0 where
  pub far : e ≤ deep
  pub turns : (d : ℕ) → d < e → (phase d n % 2 ≡ 0) × (0 < phase d n)
  pub width : w ≡ 2 ^ e
  pub at : x ≡ phase e n
  pub sized : size ≡ 2 ^ suc (suc (deep - e))

pub record Stops (deep e x : ℕ) : Type 0 where
  pub stop : (x % 2 ≡ 0) → (0 < x) → e ≡ deep

pub record Tables (deep l h count n positions : ℕ) (t b slots : List ℕ) : Type 0 where
  pub deepest : deep ≤ 8
  pub long : l ≤ 32
  pub few : count ≤ l
  pub room : suc n ≤ 2 ^ suc (suc deep)
  pub whole : positions ≡ 2 ^ suc (suc deep)
  pub low : slot_start (2 ^ suc deep) l 0 ≤ h
  pub triple : 3 * h ≤ length b
  pub costs : 16 * (h + 2 ^ deep) ≤ length t
  pub near : h ≤ 1000000
  pub names : Named deep l count slots

-- ---- what depends on the layer rule
module _ (arikan : Bool) where
  -- the tables are right for the prefixes ws of n bits; each goes on by a bit of bs
  pub record Paths (deep l h count n : ℕ) (t b slots : List ℕ) : Type 0 where
    pub y : List ℤ
    pub small : magnitude y < 2 ^ 31
    pub ws : ℕ → List ℕ
    pub bs : ℕ → ℕ
    pub bits : (r : ℕ) → r < count → Bits (ws r)
    pub bit : (r : ℕ) → r < count → bs r < 2
    pub long : (r : ℕ) → r < count → length (ws r) ≡ n
    pub room : n < 2 ^ suc (suc deep)
    pub ready : (k d : ℕ) → k + d ≡ deep → AllRight arikan k d l h count y ws t b (slot_w slots d) (slot_o slots d)
    pub base : (i x : ℕ) → i < 2 ^ deep → x < 16 → get_or t (16 * (h + i) + x) 0 ≡ F arikan (node_soft deep y i) x

  -- the new bits of the layers down to d are in b, in slot r for path r; b is b₀ but for them
  pub record Down (l h count n d : ℕ) (ws vs : ℕ → List ℕ) (b₀ b : List ℕ) : Type 0 where
    pub same : length b ≡ length b₀
    pub grows : (r i : ℕ) → r < count → i < 2 ^ d
        → node_prefix arikan d (vs r) i ≡ node_prefix arikan d (ws r) i ++ last (node_prefix arikan d (vs r) i) ∷ []
    pub bits : (e r i : ℕ) → e ≤ d → r < count → i < 2 ^ e
        → get_or b (field_at h (phase e n % 2) + slot_start (2 ^ e) l r + i) 0 ≡ last (node_prefix arikan e (vs r) i)
    pub evens : (j : ℕ) → slot_start (2 ^ suc d) l 0 ≤ j → j < h → get_or b j 0 ≡ get_or b₀ j 0
    pub sums : (j : ℕ) → h ≤ j → j < 2 * h → get_or b j 0 ≡ get_or b₀ j 0
    pub odds : (j : ℕ) → 2 * h + slot_start (2 ^ suc d) l 0 ≤ j → get_or b j 0 ≡ get_or b₀ j 0
    pub here_odd : phase d n % 2 ≡ 1 → (j : ℕ) → slot_start (2 ^ d) l 0 ≤ j → j < h → get_or b j 0 ≡ get_or b₀ j 0
    pub here_even : phase d n % 2 ≡ 0 → (j : ℕ) → 2 * h ≤ j → get_or b j 0 ≡ get_or b₀ j 0

  -- whatever the paths are: from the new bits of the top to those of layer d
  abbrev pub Descent : ℕ → ℕ → ℕ → ℕ → ℕ → ℕ → List ℕ → List ℕ → List ℕ → Type 0
  Descent deep l h count n d slots b b' =
      (t b₀ : List ℕ) (p : Paths deep l h count n t b₀ slots) → Down l h count n 0 p.ws (grown p.ws p.bs) b₀ b
      → Down l h count n d p.ws (grown p.ws p.bs) b₀ b'

  -- ---- the way up
  -- the layers from d down are right for the prefixes vs
  abbrev pub ReadyFrom : ℕ → ℕ → ℕ → ℕ → List ℤ → (ℕ → List ℕ) → ℕ → List ℕ → List ℕ → List ℕ → Type 0
  ReadyFrom deep l h count y vs d t b slots = (k e : ℕ) → k + e ≡ deep → d ≤ e
      → AllRight arikan k e l h count y vs t b (slot_w slots e) (slot_o slots e)

  -- the prefixes have n + 1 bits; the layers from e down are right for them, and the layers above have their new even
  -- bits
  pub record Rise (deep l h count n e : ℕ) (t b slots : List ℕ) : Type 0 where
    pub y : List ℤ
    pub small : magnitude y < 2 ^ 31
    pub vs : ℕ → List ℕ
    pub bits : (r : ℕ) → r < count → Bits (vs r)
    pub long : (r : ℕ) → r < count → length (vs r) ≡ suc n
    pub ready : ReadyFrom deep l h count y vs e t b slots
    pub evens : (d r i : ℕ) → d < e → r < count → i < 2 ^ d
        → get_or b (slot_start (2 ^ d) l r + i) 0 ≡ last (node_prefix arikan d (vs r) i)

  -- whatever the prefixes are: from the layers below e to those below d
  abbrev pub Ascent : ℕ → ℕ → ℕ → ℕ → ℕ → ℕ → List ℕ → List ℕ → List ℕ → ℕ → List ℕ → List ℕ → Type 0
  Ascent deep l h count n e t b slots d t' slots' = (q : Rise deep l h count n e t b slots)
      → ReadyFrom deep l h count q.y q.vs d t' b slots'

  -- whatever the paths are: from the new bits of the layers to e, to the layers from e on and the even bits above
  abbrev pub Turn : ℕ → ℕ → ℕ → ℕ → ℕ → ℕ → List ℕ → List ℕ → List ℕ → List ℕ → List ℕ → List ℕ → Type 0
  Turn deep l h count n e t b slots t' b' slots' =
      (b₀ : List ℕ) (p : Paths deep l h count n t b₀ slots) → Down l h count n e p.ws (grown p.ws p.bs) b₀ b
      → ReadyFrom deep l h count p.y (grown p.ws p.bs) e t' b' slots'
      × ((d r i : ℕ) → d < e → r < count → i < 2 ^ d
      → get_or b' (slot_start (2 ^ d) l r + i) 0 ≡ last (node_prefix arikan d (grown p.ws p.bs r) i))

  -- every path's new bit is at the top; then all layers are right for the prefixes with it
  abbrev pub Advance : ℕ → ℕ → ℕ → ℕ → ℕ → List ℕ → List ℕ → List ℕ → List ℕ → List ℕ → List ℕ → Type 0
  Advance deep l h count n t b slots t' b' slots' =
      (b₀ : List ℕ) (p : Paths deep l h count n t b₀ slots) → Down l h count n 0 p.ws (grown p.ws p.bs) b₀ b
      → ReadyFrom deep l h count p.y (grown p.ws p.bs) 0 t' b' slots'
